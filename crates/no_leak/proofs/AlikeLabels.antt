-- Labels of the same sides and shades have the same counts; those whose training labels are the same have the same list of these. Assumes
-- nothing.
use mathlib.Core.Path.{◌≡◌, refl, sym, ap, ◌∙◌}
use mathlib.Core.Bool.{Bool, true, false, cond, ◌&&◌}
use mathlib.Core.List.{List, [], ◌∷◌, ◌++◌}
use Prim.Native.Nat.{ℕ, zero, suc, ◌<◌}
use native.Mathlib.Omega.{arith}
use lib.Dec.{eqb}
use borrow.Author.Tests.{eqb-true}
use Rattle.shade.specs.Codes.{shade_code}
use Rattle.shade.specs.declared.Shade.TheVariants.{Dark}
use Rattle.label.specs.Sides.{training, test}
use Rattle.label.specs.declared.Label.{Label}
use Rattle.sequence.specs.Sequence.{tally}
use Rattle.trailer.specs.Counts.{is_on, is_dark, is_dark_test, counts_of}
use Rattle.sequence.proofs.Sequences.{tally_same}
use Rattle.scale.specs.Figures.{training_in}
use Rattle.scale.specs.Step.{first_labels}
use Rattle.scale.proofs.Lists.{flat_map_snoc}

-- what the counts look at
pub record SameCounted (l m : Label) : Type 0 where
  pub same_side : l.side ≡ m.side
  pub same_shade : l.shade ≡ m.shade

module _ (l m : ℕ → Label) where
  pub counts_alike : (n : ℕ) → ((k : ℕ) → k < n → SameCounted (l k) (m k)) → counts_of l n ≡ counts_of m n
  unfolding counts_of is_on is_dark is_dark_test
  counts_alike n h =
      let on : (s : ℕ) → tally (λ k. eqb (l k).side s) n ≡ tally (λ k. eqb (m k).side s) n =
      λ s. tally_same (λ k. eqb (l k).side s) (λ k. eqb (m k).side s) n (λ k b. ap (λ (x : ℕ). eqb x s) (h k b).same_side) in
      let dark = tally_same (λ k. is_dark (l k)) (λ k. is_dark (m k)) n (λ k b. ap (λ (x : ℕ). eqb x (shade_code Dark)) (h k b).same_shade) in
      let dark_test = tally_same (λ k. is_dark_test (l k)) (λ k. is_dark_test (m k)) n (λ k b. λ i. eqb ((h k b).same_shade i) (shade_code Dark) && eqb ((h k b).same_side i) test) in
      λ i. record { labels = n; training = on training i; test = on test i; dark = dark i; dark_test = dark_test i }

-- the same side, and on the training side the same label
pub record SameOnTraining (l m : Label) : Type 0 where
  pub same_side : l.side ≡ m.side
  pub same_label : l.side ≡ training → l ≡ m

abbrev only : Label → List Label
only l = cond (is_on training l) (l ∷ []) []

only_same : (l m : Label) → SameOnTraining l m → only l ≡ only m
unfolding is_on
only_same l m h = by (eqb l.side training) refl
  where
    by : (t : Bool) → eqb l.side training ≡ t → only l ≡ only m
    by true e = ap only (h.same_label (eqb-true _ _ e))
    by false e = rw (e, sym (ap (λ (s : ℕ). eqb s training) h.same_side) ∙ e)

pub training_same : (l m : ℕ → Label) (n : ℕ) → ((k : ℕ) → k < n → SameOnTraining (l k) (m k)) → training_in (first_labels l n) ≡ training_in (first_labels m n)
unfolding first_labels
training_same l m zero h = refl
training_same l m (suc n) h =
    flat_map_snoc only (first_labels l n) (l n)
    ∙ (λ i. training_same l m n (λ k b. h k (omega arith)) i ++ only_same (l n) (m n) (h n (omega arith)) i)
    ∙ sym (flat_map_snoc only (first_labels m n) (m n))
