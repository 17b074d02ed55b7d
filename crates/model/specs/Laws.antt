-- What the theorems of proofs/ speak of: lists with the same marks, ordered lists, the laws of an axis and of a register. Assumes nothing.
use Rattle.std.specs.Prelude.{ℕ, ◌+◌, ◌*◌, ◌≤◌, ◌<◌, ◌≡◌, Bool, true, false, List, [], ◌∷◌, length}
use Rattle.model.specs.Lists.{count_if, filter_by, remove_first}
use Rattle.model.specs.Totals.{Operation, total_if}
use Rattle.model.specs.Axis.{Space, Axis, on_side}
use Rattle.model.specs.Register.{Register}

pub data All {M : Type 0} (P : M → Type 0) : List M → Type 0 where
  nil : All P []
  cons : {m : M} {l : List M} → P m → All P l → All P (m ∷ l)

-- the same marks, each as often, perhaps in another order: every test is passed by as many
abbrev pub SameBag : {M : Type 0} → List M → List M → Type 0
SameBag {M} l k = (p : M → Bool) → count_if p l ≡ count_if p k

-- "any associative, commutative operation" (R-1), to which 0 is neutral
pub record OperationLaws {M : Type 0} (P : Operation M) : Type 0 where
  pub assoc : (a b c : ℕ) → P.join (P.join a b) c ≡ P.join a (P.join b c)
  pub comm : (a b : ℕ) → P.join a b ≡ P.join b a
  pub neutral : (a : ℕ) → P.join 0 a ≡ a

module _ {M B : Type 0} where
  -- sameness is an equivalence
  pub record SamenessLaws (S : Space M B) : Type 0 where
    pub self : (a : M) → S.same a a ≡ true
    pub alike : (a b : M) → S.same a b ≡ true → S.same a ≡ S.same b

  -- no mark stands twice
  abbrev pub Distinct : Space M B → List M → Type 0
  Distinct S l = (m : M) → count_if (S.same m) l ≤ 1

  -- A strict order, total up to sameness, along which the coordinate does not fall, and between marks of which none is below the other it stays. A box's
  -- side is an interval of coordinates, and the box holds only marks on it.
  pub record AxisLaws (S : Space M B) (A : Axis M B) : Type 0 where
    pub trans : (a b c : M) → A.below a b ≡ true → A.below b c ≡ true → A.below a c ≡ true
    pub linear : (a b c : M) → A.below a b ≡ true → A.below c b ≡ false → A.below a c ≡ true
    pub apart : (a b : M) → A.below a b ≡ true → S.same a b ≡ false
    pub close : (a b : M) → A.below a b ≡ false → A.below b a ≡ false → S.same a b ≡ true
    pub rises : (a b : M) → A.below a b ≡ true → A.at a ≤ A.at b
    pub level : (a b : M) → A.below a b ≡ false → A.at b ≤ A.at a
    pub low_rises : (b : B) (v w : ℕ) → v ≤ w → A.from_low b v ≡ true → A.from_low b w ≡ true
    pub high_falls : (b : B) (v w : ℕ) → v ≤ w → A.to_high b w ≡ true → A.to_high b v ≡ true
    pub held : (b : B) (m : M) → S.holds b m ≡ true → on_side A b (A.at m) ≡ true

  -- the side of a box that is not the wrong way round: a coordinate before it is not past it
  abbrev pub Straight : Axis M B → B → Type 0
  Straight A b = (v : ℕ) → A.from_low b v ≡ false → A.to_high b v ≡ true

  -- each mark is below all that follow
  pub data Sorted (A : Axis M B) : List M → Type 0 where
    sorted[] : Sorted A []
    sorted∷ : {m : M} {l : List M} → All (λ q. A.below m q ≡ true) l → Sorted A l → Sorted A (m ∷ l)

  -- The laws of a register. `Represents i l` says that i is what it should be for the marks of l. A search goes by the sides that are not settled
  -- before it, so it counts right where every mark is on the settled sides. `bound n` bounds the visits for n marks.
  pub record RegisterLaws {I : Type 0} (S : Space M B) (R : Register M B I) (settled : B → M → Bool) (bound : ℕ → ℕ) : Type 1 where
    pub Represents : I → List M → Type 0
    pub alike : (i : I) (l k : List M) → SameBag l k → Represents i l → Represents i k
    pub build : (l : List M) → Distinct S l → Represents (R.build l) l
    pub insert : (m : M) (i : I) (l : List M) → Distinct S (m ∷ l) → Represents i l → Represents (R.insert m i) (m ∷ l)
    pub strike : (m : M) (i : I) (l : List M) → Distinct S l → 0 < count_if (S.same m) l → Represents i l
        → Represents (R.strike m i) (remove_first (S.same m) l)
    pub count : (P : Operation M) → OperationLaws P → (b : B) (i : I) (l : List M) → Represents i l → All (λ m. settled b m ≡ true) l
        → (R.count b i).found P ≡ total_if P (S.holds b) l
    pub visits : (b : B) (i : I) (l : List M) → Represents i l → (R.count b i).visits ≤ bound (length l)
    pub list : (b : B) (i : I) (l : List M) → Represents i l → All (λ m. settled b m ≡ true) l → SameBag (R.list b i).marks (filter_by (S.holds b) l)
    pub list_visits : (b : B) (i : I) (l : List M) → Represents i l → (R.list b i).visits ≤ (R.count b i).visits + 2 * length (R.list b i).marks
    pub bound_rises : (m n : ℕ) → m ≤ n → bound m ≤ bound n
