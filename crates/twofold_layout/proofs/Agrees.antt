-- A tree over slots by the rules stands for a tree over marks that agrees with the plain list of its marks: order, balance and what nodes carry go through
-- the map from slots to marks. Assumes nothing.
use Prim.Native.Nat.{ℕ}
use mathlib.Core.Path.{◌≡◌, refl, sym, ap, ◌∙◌, subst}
use mathlib.Core.Bool.{Bool}
use mathlib.Core.List.{List, [], ◌∷◌, ◌++◌, map}
use mathlib.Core.Option
use mathlib.Core.Option.{some}
use native.Mathlib.Omega.{arith}
use Rattle.model.specs.Lists.{count_if}
use Rattle.model.specs.Axis.{Axis}
use Rattle.model.specs.Register.{innermost}
use Rattle.model.specs.Tree.{Tree, leaf, node, marks, Balanced}
use Rattle.model.specs.Sheet.{Mark, Box, sheet, along_x, along_y, Auxiliary, auxiliary}
use Rattle.model.specs.Slots.{slot_axis, map_tree}
use Rattle.model.specs.Laws.{SameBag, Sorted, sorted[], sorted∷}
use Rattle.model.proofs.Lists.{all-mapped}
use Rattle.model.proofs.Orders.{sheet-sameness, along_x-laws, along_y-laws}
use Rattle.model.proofs.Slots.{map-append, map-weight, map-marks}
use Rattle.model.proofs.Carried.{Carried}
use Rattle.model.proofs.Fold.{settled_with, fold_bound, innermost-laws, innermost-represents}
use Rattle.model.proofs.TwoFold.{unsettled, both-settled, auxiliary-laws, auxiliary-represents, Agrees}
use Rattle.nodes.specs.Holds.{CarriesBag}
use Rattle.twofold_layout.specs.Rules.{SlotAuxiliary, SlotMain, AuxiliaryOf, AuxiliariesOf, ByRules, marks_main}

module _ (f : ℕ → Mark) where
  -- lists
  pub count_if-map : (p : Mark → Bool) (l : List ℕ) → count_if p (map f l) ≡ count_if (λ s. p (f s)) l
  count_if-map p [] = refl
  count_if-map p (s ∷ l) = omega (arith, count_if-map p l)

  pub same_bag-map : (l k : List ℕ) → SameBag l k → SameBag (map f l) (map f k)
  same_bag-map l k e p = count_if-map p l ∙ e (λ s. p (f s)) ∙ sym (count_if-map p k)

  sorted-map : {A : Axis Mark Box} {l : List ℕ} → Sorted (slot_axis f A) l → Sorted A (map f l)
  sorted-map sorted[] = sorted[]
  sorted-map (sorted∷ h s) = sorted∷ (all-mapped f h) (sorted-map s)

  balanced-map : {I J : Type 0} (g : I → J) (t : Tree ℕ I) → Balanced t → Balanced (map_tree f g t)
  balanced-map g (leaf s) b = tt
  balanced-map g (node i l r) b = rw (map-weight f g l, map-weight f g r) (b.0, b.1, balanced-map g l b.2, balanced-map g r b.3)

  -- the marks beneath a node
  map-beneath : {I J : Type 0} (g : I → J) (l r : Tree ℕ I) → map f (marks l ++ marks r) ≡ marks (map_tree f g l) ++ marks (map_tree f g r)
  map-beneath g l r = rw (map-marks f g l, map-marks f g r) (map-append f (marks l) (marks r))

  -- what the nodes of an auxiliary tree carry, and that tree
  abbrev AuxiliaryCarried : Tree Mark (List Mark) → Type 0
  AuxiliaryCarried =
      Carried sheet sheet-sameness along_y along_y-laws (innermost sheet) (settled_with along_y (settled_with along_x unsettled)) (λ n. 0)
      (innermost-laws sheet (settled_with along_y (settled_with along_x unsettled)) both-settled)

  carries-map : (t : Tree ℕ (List ℕ)) → CarriesBag t → AuxiliaryCarried (map_tree f (map f) t)
  carries-map (leaf s) c = tt
  carries-map (node i l r) c = (
    innermost-represents sheet (settled_with along_y (settled_with along_x unsettled)) both-settled (map f i)
        (marks (map_tree f (map f) l) ++ marks (map_tree f (map f) r))
        (subst (SameBag (map f i)) (map-beneath (map f) l r) (same_bag-map i (marks l ++ marks r) c.0)),
    carries-map l c.1,
    carries-map r c.2,
  )

  abbrev marks_auxiliary : SlotAuxiliary → Auxiliary
  marks_auxiliary = Option.map (map_tree f (map f))

  auxiliary-map : (l : List ℕ) (o : SlotAuxiliary) → AuxiliaryOf f l o → auxiliary-laws.Represents (marks_auxiliary o) (map f l)
  auxiliary-map l o a =
      let g = map-marks f (map f) a.tree in
      subst (λ o. auxiliary-laws.Represents (marks_auxiliary o) (map f l)) (sym a.is)
      (auxiliary-represents (some (map_tree f (map f) a.tree)) (map f l)
      (record {
        bag = λ p. ap (count_if p) g ∙ same_bag-map (marks a.tree) l a.bag p;
        sorted = rw g (sorted-map a.sorted);
        balanced = balanced-map (map f) a.tree a.balanced;
        carried = carries-map a.tree a.carries;
      }))

  -- what the nodes of the main tree carry, and that tree
  auxiliaries-map : (t : SlotMain) → AuxiliariesOf f t
      → Carried sheet sheet-sameness along_x along_x-laws auxiliary (settled_with along_x unsettled) (fold_bound (λ n. 0)) auxiliary-laws
      (map_tree f marks_auxiliary t)
  auxiliaries-map (leaf s) a = tt
  auxiliaries-map (node i l r) a = (
    subst (auxiliary-laws.Represents (marks_auxiliary i)) (map-beneath marks_auxiliary l r) (auxiliary-map (marks l ++ marks r) i a.0),
    auxiliaries-map l a.1,
    auxiliaries-map r a.2,
  )

  pub rules-agrees : (t : SlotMain) → ByRules f t → Agrees (marks_main f (some t)) (map f (marks t))
  rules-agrees t b =
      let g = map-marks f marks_auxiliary t in
      let s : Sorted along_x (map f (marks t)) = sorted-map b.sorted in
      record {
        list = g;
        sorted = s;
        sound = record {
          bag = λ p. ap (count_if p) g;
          sorted = rw g s;
          balanced = balanced-map marks_auxiliary t b.balanced;
          carried = auxiliaries-map t b.auxiliaries;
        };
      }
