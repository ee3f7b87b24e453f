-- The rows of a table that putting made. Assumes nothing.
use mathlib.Core.Path.{◌≡◌, refl, sym, ap, ◌∙◌, subst}
use Prim.Native.Nat.{ℕ, zero, suc, ◌+◌, ◌*◌, ◌-◌, ◌≤◌, ◌<◌}
use native.Mathlib.Nat.{eq-or-lt_of_le, add-zero}
use native.Mathlib.Omega.{arith}
use mathlib.Core.Logic.{⊎_elim}
use mathlib.Core.Bool.{Bool, true, false}
use mathlib.Core.List.{List, [], ◌++◌, append-nil}
use borrow.Author.Tests.{ltb-true, ltb-false}
use lib.Dec.{ltb}
use lib.ListN.{length, take, drop, length-append, length-drop, take-append-drop}
use lib.Seq.{take_at, drop_at, drop-drop, length-take-le, take-append-le, drop-append-le, drop-append-add}
use lib.Signed.{lt_z}
use Rattle.integer.proofs.Order.{after_parts, parts_before}
use Rattle.elements.specs.Contract.{Held}
use Rattle.elements.specs.Elements.{checked}
use Rattle.elements.specs.declared.Elements.{Elements}
use Rattle.elements_buffer.specs.Buffer.{elements_of, elements_bytes}
use Rattle.elements_buffer.proofs.ElementsBack.{elements_back}
use Rattle.element_sets.specs.Table.{row_size, rows_in, row_at, set_at, epoch_at, accepts, follows, keeps_at, is_table, before, up_to}
use Rattle.element_sets.specs.Putting.{end_with}
use Rattle.element_sets.proofs.Scans.{table_sound}
use Rattle.element_sets.proofs.Sound.{whole, accepted_at, rises_at, few, one_at_most, is_before, is_after}
use Rattle.element_sets.proofs.Moves.{elements_length}
use Rattle.std.specs.Prelude.{Ok}

-- a row of the first of two lists
ahead : (a b : List ℕ) (k : ℕ) → row_size * k + row_size ≤ length a → row_at (a ++ b) k ≡ row_at a k
unfolding row_at
ahead a b k h =
    ap (take row_size) (drop-append-le (row_size * k) a b (omega arith))
    ∙ take-append-le row_size (drop (row_size * k) a) b (omega (arith, length-drop (row_size * k) a))

-- a row of a table in its buffer
pub in_table : (buffer : List ℕ) (size k : ℕ) → size ≤ length buffer → row_size * k + row_size ≤ size → row_at buffer k ≡ row_at (take size buffer) k
in_table buffer size k h l =
    ap (λ (b : List ℕ). row_at b k) (sym (take-append-drop size buffer))
    ∙ ahead (take size buffer) (drop size buffer) k (omega (arith, length-take-le size buffer h))

module _ (t : List ℕ) (is : is_table t ≡ true) (el : Elements) where
  abbrev pub earlier : ℕ
  earlier = before t el.epoch

  abbrev pub later : ℕ
  later = up_to t el.epoch

  abbrev rows : ℕ
  rows = rows_in (length t)

  abbrev front : List ℕ
  front = take (row_size * earlier) t

  abbrev pub made : List ℕ
  made = front ++ (elements_bytes el ++ drop (row_size * later) t)

  pub order : earlier ≤ later
  order = (one_at_most t is el.epoch).order

  pub bound : row_size * later ≤ length t
  bound = let h = few t is el.epoch in omega arith

  front_length : length front ≡ row_size * earlier
  front_length = length-take-le (row_size * earlier) t (omega (arith, order, bound))

  pub made_length : length made ≡ end_with earlier later (length t)
  made_length =
      let a = length-append front (elements_bytes el ++ drop (row_size * later) t) in
      let b = length-append (elements_bytes el) (drop (row_size * later) t) in
      omega (arith, a, b, front_length, elements_length el, length-drop (row_size * later) t)

  pub made_rows : rows_in (length made) ≡ earlier + 1 + (rows - later)
  made_rows = omega (arith, made_length, whole t is, few t is el.epoch)

  -- ---- each row
  pub row_before : (k : ℕ) → k < earlier → row_at made k ≡ row_at t k
  row_before k l =
      let h : row_size * k + row_size ≤ length front = omega (arith, front_length) in
      ahead front (elements_bytes el ++ drop (row_size * later) t) k h ∙ sym (ahead front (drop (row_size * earlier) t) k h)
      ∙ ap (λ (l : List ℕ). row_at l k) (take-append-drop (row_size * earlier) t)

  pub row_new : row_at made earlier ≡ elements_bytes el
  unfolding row_at
  row_new =
      ap (take row_size) (drop_at front (elements_bytes el ++ drop (row_size * later) t) (row_size * earlier) front_length)
      ∙ take_at (elements_bytes el) (drop (row_size * later) t) row_size (elements_length el)

  pub row_after : (j : ℕ) → row_at made (earlier + 1 + j) ≡ row_at t (later + j)
  unfolding row_at
  row_after j =
      let rest = elements_bytes el ++ drop (row_size * later) t in
      let at : row_size * (earlier + 1 + j) ≡ length front + (length (elements_bytes el) + row_size * j) = omega (arith, front_length, elements_length el) in
      let on : row_size * later + row_size * j ≡ row_size * (later + j) = omega arith in
      ap (take row_size)
      (ap (λ (n : ℕ). drop n made) at ∙ drop-append-add front rest (length (elements_bytes el) + row_size * j)
      ∙ drop-append-add (elements_bytes el) (drop (row_size * later) t) (row_size * j)
      ∙ drop-drop (row_size * j) (row_size * later) t
      ∙ ap (λ (n : ℕ). drop n t) on)

  -- ---- each set
  pub set_before : (k : ℕ) → k < earlier → set_at made k ≡ set_at t k
  unfolding set_at
  set_before k l = ap elements_of (row_before k l)

  pub set_new : Held el → set_at made earlier ≡ el
  unfolding set_at
  set_new h = ap elements_of (row_new ∙ sym (append-nil (elements_bytes el))) ∙ elements_back el [] h

  pub set_after : (j : ℕ) → set_at made (earlier + 1 + j) ≡ set_at t (later + j)
  unfolding set_at
  set_after j = ap elements_of (row_after j)

  -- a row ahead of the new one, the new one, or one behind it
  pub each : (P : ℕ → Type 0) → ((k : ℕ) → k < earlier → P k) → P earlier → ((j : ℕ) → j < rows - later → P (earlier + 1 + j))
      → (k : ℕ) → k < rows_in (length made) → P k
  each P ahead new behind k l = by (ltb k earlier) refl
    where
      on : earlier + 1 + (k - earlier - 1) ≡ k → P k
      on e = subst P e (behind (k - earlier - 1) (omega (arith, made_rows)))

      by : (t : Bool) → ltb k earlier ≡ t → P k
      by true e = ahead k (ltb-true k earlier e)
      by false e = ⊎_elim (λ (h : earlier ≡ k). subst P h new) (λ (h : earlier < k). on (omega arith)) (eq-or-lt_of_le {n = earlier} {m = k} (ltb-false k earlier e))

  -- ---- a set that is accepted makes a table
  module _ (held : Held el) (passed : checked el ≡ Ok tt) where
    accepted : (k : ℕ) → k < rows_in (length made) → accepts (checked (set_at made k)) ≡ true
    accepted =
        each (λ k. accepts (checked (set_at made k)) ≡ true)
        (λ k l. rw (set_before k l) (accepted_at t is k (omega (arith, order, few t is el.epoch))))
        (rw (set_new held, passed))
        (λ j l. rw (set_after j) (accepted_at t is (later + j) (omega arith)))

    follows_next : {a b : Elements} (k : ℕ) → set_at made k ≡ a → set_at made (suc k) ≡ b → lt_z a.epoch b.epoch ≡ true → follows made (suc k) ≡ true
    unfolding follows
    follows_next k e f h = (λ i. lt_z (e i).epoch (f i).epoch) ∙ h

    follows_ahead : (k : ℕ) → k < earlier → follows made k ≡ true
    unfolding follows
    follows_ahead zero l = refl
    follows_ahead (suc k) l = follows_next k (set_before k (omega arith)) (set_before (suc k) l) (rises_at t is k (omega (arith, order, few t is el.epoch)))

    follows_new : (k : ℕ) → k ≡ earlier → follows made k ≡ true
    unfolding follows
    follows_new zero e = refl
    follows_new (suc k) e = follows_next k (set_before k (omega arith)) (ap (set_at made) e ∙ set_new held) (is_before t is el.epoch k (omega arith))

    -- the first set behind the new one is after it
    after_new : later < rows → lt_z el.epoch (epoch_at t later) ≡ true
    after_new l = let h = after_parts (epoch_at t later) el.epoch (is_after t is el.epoch l) in parts_before el.epoch (epoch_at t later) (omega arith)

    follows_behind : (j : ℕ) → j < rows - later → follows made (suc (earlier + j)) ≡ true
    follows_behind zero l =
        let at : suc (earlier + 0) ≡ earlier + 1 + 0 = omega arith in
        follows_next (earlier + 0) (ap (set_at made) (add-zero earlier) ∙ set_new held) (ap (set_at made) at ∙ set_after 0 ∙ ap (set_at t) (add-zero later)) (after_new (omega arith))
    follows_behind (suc j) l =
        let last : earlier + suc j ≡ earlier + 1 + j = omega arith in
        let at : suc (earlier + suc j) ≡ earlier + 1 + suc j = omega arith in
        let next : later + suc j ≡ suc (later + j) = omega arith in
        follows_next (earlier + suc j) (ap (set_at made) last ∙ set_after j) (ap (set_at made) at ∙ set_after (suc j) ∙ ap (set_at t) next) (rises_at t is (later + j) (omega arith))

    follows_each : (k : ℕ) → k < rows_in (length made) → follows made k ≡ true
    follows_each =
        each (λ k. follows made k ≡ true) follows_ahead (follows_new earlier refl)
        (λ j l. let at : suc (earlier + j) ≡ earlier + 1 + j = omega arith in subst (λ (n : ℕ). follows made n ≡ true) at (follows_behind j l))

    pub made_table : is_table made ≡ true
    unfolding keeps_at
    made_table =
        table_sound made (omega (arith, made_length, whole t is, few t is el.epoch))
        (λ k l. rw (accepted k l, follows_each k l))
