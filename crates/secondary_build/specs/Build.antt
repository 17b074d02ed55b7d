-- The mirrors of building and rebuilding, along any axis. Assumes nothing.
use Rattle.std.specs.Prelude.{ℕ, zero, suc, ◌+◌, ◌-◌, ◌/◌, ◌≤◌, ◌<◌, ◌≡◌, refl, Bool, List, leb, if◌then◌else◌}
use Rattle.std.proofs.Common.{◌∙◌, arith, leb-false, le-leb}
use Rattle.std.proofs.lemmas.Bool.{lt-leb}
use Rattle.model.specs.Axis.{Axis}
use Rattle.model.specs.Sheet.{Mark, Box}
use Rattle.model.proofs.Logic.{by_cases}
use Rattle.table.specs.Marks.{slot_mark}
use Rattle.table.specs.Runs.{run_slot}
use Rattle.nodes.specs.Arms.{Arm, no_arm, leaf_arm, over_arm, put_record}
use Rattle.table.specs.After.{After, after}
use Rattle.nodes.specs.Collect.{gather♯}

-- from a place of run A, a number of slots, and the words
abbrev pub Building : Type 0
Building = ℕ → ℕ → List ℕ → After Arm

unfoldable pub run_leaf : Axis Mark Box → ℕ → ℕ → List ℕ → Arm
run_leaf A capacity i xs = let s = run_slot capacity i xs in leaf_arm s (A.at (slot_mark xs s)) (slot_mark xs s).grade

unfoldable pub build_over : (ℕ → ℕ) → ℕ → Arm → Arm → List ℕ → After Arm
build_over place name l r xs = after (over_arm name l r) (put_record xs (place name) l r)

unfoldable pub build_node : Building → (ℕ → ℕ) → ℕ → Building
build_node rec place capacity i n xs =
    let p : After Arm = rec i (n / 2) xs in
    let q : After Arm = rec (i + n / 2) (n - n / 2) p.words in
    build_over place (run_slot capacity (i + n / 2) q.words) p.out q.out q.words

unfoldable pub build_step : Axis Mark Box → Building → (ℕ → ℕ) → ℕ → Building
build_step A rec place capacity i n xs = if leb n 1 then after (run_leaf A capacity i xs) xs else build_node rec place capacity i n xs

-- with a bound on n
unfoldable pub build♯ : Axis Mark Box → ℕ → (ℕ → ℕ) → ℕ → Building
build♯ A zero place capacity i n xs = after (run_leaf A capacity i xs) xs
build♯ A (suc f) place capacity i n xs = build_step A (build♯ A f place capacity) place capacity i n xs

-- a step asks of shorter runs only
build_step-agree : (A : Axis Mark Box) (rec rec' : Building) (place : ℕ → ℕ) (capacity i n : ℕ) (xs : List ℕ)
    → ((i' n' : ℕ) (xs' : List ℕ) → n' < n → rec i' n' xs' ≡ rec' i' n' xs')
    → build_step A rec place capacity i n xs ≡ build_step A rec' place capacity i n xs
unfolding build_step build_node
build_step-agree A rec rec' place capacity i n xs same =
    by_cases (leb n 1)
    (λ e. rw e)
    (λ e.
    let h : 1 < n = leb-false n 1 e in
    rw (e, same i (n / 2) xs (omega arith), same (i + n / 2) (n - n / 2) (rec' i (n / 2) xs).words (omega arith)))

-- any two bounds serve
build♯-bound : (A : Axis Mark Box) (f g : ℕ) (place : ℕ → ℕ) (capacity i n : ℕ) (xs : List ℕ) → n ≤ f → n ≤ g
    → build♯ A f place capacity i n xs ≡ build♯ A g place capacity i n xs
unfolding build♯ build_step
build♯-bound A zero zero place capacity i n xs hf hg = refl
build♯-bound A zero (suc g) place capacity i n xs hf hg = let e : n ≡ 0 = omega arith in rw e
build♯-bound A (suc f) zero place capacity i n xs hf hg = let e : n ≡ 0 = omega arith in rw e
build♯-bound A (suc f) (suc g) place capacity i n xs hf hg =
    build_step-agree A (build♯ A f place capacity) (build♯ A g place capacity) place capacity i n xs
    (λ i' n' xs' h. build♯-bound A f g place capacity i' n' xs' (omega arith) (omega arith))

build♯-step : (A : Axis Mark Box) (f : ℕ) (place : ℕ → ℕ) (capacity i n : ℕ) (xs : List ℕ)
    → build♯ A (suc f) place capacity i n xs ≡ build_step A (build♯ A f place capacity) place capacity i n xs
unfolding build♯
build♯-step A f place capacity i n xs = refl

build_step-node : (A : Axis Mark Box) (rec : Building) (place : ℕ → ℕ) (capacity i n : ℕ) (xs : List ℕ) → 1 < n
    → build_step A rec place capacity i n xs ≡ build_node rec place capacity i n xs
unfolding build_step
build_step-node A rec place capacity i n xs h = rw (lt-leb n 1 h)

-- a run of one slot, and a longer one
pub build♯-leaf : (n : ℕ) → n ≤ 1 → (A : Axis Mark Box) (place : ℕ → ℕ) (capacity i : ℕ) (xs : List ℕ)
    → build♯ A n place capacity i n xs ≡ after (run_leaf A capacity i xs) xs
unfolding build♯ build_step
build♯-leaf zero h A place capacity i xs = refl
build♯-leaf (suc n) h A place capacity i xs = rw (le-leb (suc n) 1 h)

pub build♯-node : (n : ℕ) → 1 < n → (A : Axis Mark Box) (place : ℕ → ℕ) (capacity i : ℕ) (xs : List ℕ)
    → build♯ A n place capacity i n xs ≡ build_node (λ i' n' xs'. build♯ A n' place capacity i' n' xs') place capacity i n xs
build♯-node zero h A place capacity i xs = absurd (omega arith)
build♯-node (suc n) h A place capacity i xs =
    build♯-step A n place capacity i (suc n) xs
    ∙ build_step-agree A (build♯ A n place capacity) (λ i' n' xs'. build♯ A n' place capacity i' n' xs') place capacity i (suc n) xs
    (λ i' n' xs' k. build♯-bound A n n' place capacity i' n' xs' (omega arith) (omega arith))
    ∙ build_step-node A (λ i' n' xs'. build♯ A n' place capacity i' n' xs') place capacity i (suc n) xs h

unfoldable pub rebuild_run : Axis Mark Box → (ℕ → ℕ) → ℕ → ℕ → After Bool → After Arm
rebuild_run A place capacity k run = if run.out then build♯ A k place capacity 0 k run.words else after no_arm run.words

-- the tree of weight w and number n built afresh without the slot `but`, which leaves it k slots
unfoldable pub rebuild♯ : Axis Mark Box → (ℕ → ℕ) → ℕ → ℕ → ℕ → ℕ → ℕ → List ℕ → After Arm
rebuild♯ A place capacity but k w n xs = rebuild_run A place capacity k (gather♯ place capacity but k w n xs)
