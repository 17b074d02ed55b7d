-- A register: what can be done with the marks that a node of a tree carries, and the innermost one, which a tree's nodes carry where no further
-- tree hangs on them. Assumes nothing.
use Rattle.std.specs.Prelude.{ℕ, ◌*◌, ◌-◌, List, ◌∷◌, length}
use Rattle.model.specs.Lists.{remove_first}
use Rattle.model.specs.Totals.{Operation, total}
use Rattle.model.specs.Axis.{Space}

-- what a count gives: what the marks found come to under any operation, and the nodes arrived at
pub record Found (M : Type 0) : Type 0 where
  pub found : Operation M → ℕ
  pub visits : ℕ

-- what a listing gives: the marks as it meets them, and the nodes arrived at
pub record Listed (M : Type 0) : Type 0 where
  pub marks : List M
  pub visits : ℕ

-- operations over marks M, boxes B and a register's own form I
pub record Register (M B I : Type 0) : Type 0 where
  pub build : List M → I
  pub insert : M → I → I
  pub strike : M → I → I
  pub count : B → I → Found M
  pub list : B → I → Listed M

-- The innermost register is the marks themselves. A count adds what they all come to (their number is the node's weight) with no visit more. A
-- listing walks every node beneath the one that carries them, "one visit each" (The search): a tree of w leaves has 2w - 2 nodes beneath its root.
abbrev pub innermost : {M B : Type 0} → Space M B → Register M B (List M)
innermost S = record {
  build = λ l. l;
  insert = λ m l. m ∷ l;
  strike = λ m l. remove_first (S.same m) l;
  count = λ b l. record { found = λ P. total P.join P.of l; visits = 0 };
  list = λ b l. record { marks = l; visits = 2 * length l - 2 };
}
