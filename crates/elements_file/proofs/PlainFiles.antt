-- The definition takes every plain file, with the elements that it writes: a theorem that no function needs. Assumes nothing.
use mathlib.Core.Path.{◌≡◌, refl, ap, ◌∙◌}
use mathlib.Core.Bool.{Bool, true, false, cond}
use mathlib.Core.List.{List, [], ◌∷◌, ◌++◌, append_assoc}
use Prim.Native.Nat.{ℕ, zero, suc, ◌+◌, ◌*◌, ◌-◌, ◌≤◌, ◌<◌}
use native.Mathlib.Nat.{le_trans, le_refl, add-zero}
use native.Mathlib.Omega.{arith}
use borrow.Author.Tests.{ne_eqb, le-leb, le-ltb}
use lib.ListN.{length}
use Rattle.std.specs.Prelude.{Option, Some, None, unwrap_or}
use Rattle.elements.specs.declared.Elements.{Elements}
use Rattle.elements_file.specs.Names.{names, name_byte}
use Rattle.elements_file.specs.Numbers.{is_signed, largest, unwritten, minus, takes_minus}
use Rattle.elements_file.specs.Lines.{named, counted, valued, begun, within}
use Rattle.elements_file.specs.Fields.{stored}
use Rattle.elements_file.specs.Reading.{start, ended, step, after_bytes, concluded, parsed}
use Rattle.elements_file.specs.Plain.{value_after, Numeral, read_number, digit_bytes, value_bytes, name_of, line_of, lines_from, AllDigits, Plain, written_elements}
use Rattle.elements_file.specs.declared.Progress.{Progress}
use Rattle.elements_file.specs.declared.line.Place.{Place}
use Rattle.elements_file.specs.declared.line.Place.TheVariants.{Start, Value}
use Rattle.std.specs.Prelude.{Ok}

-- ---- a number
grows : (m : ℕ) (ds : List ℕ) → m ≤ value_after m ds
unfolding value_after
grows m [] = le_refl m
grows m (d ∷ ds) = let h = grows (10 * m + d) ds in le_trans (omega arith) h

module _ (line element : ℕ) (el : Elements) where
  abbrev reading : Place → Progress
  reading p = record { line = line; element = element; place = p; elements = el }

  digit_read : (negative : Bool) (had : Option ℕ) (d : ℕ) → d ≤ 9 → 10 * unwrap_or had 0 + d ≤ largest element negative →
      step (reading (Value (record { negative = negative; magnitude = had }))) (48 + d)
      ≡ reading (Value (record { negative = negative; magnitude = Some (10 * unwrap_or had 0 + d) }))
  unfolding step within valued counted
  digit_read negative had d h k =
      let back : 48 + d - 48 ≡ d = omega arith in
      rw (ne_eqb (48 + d) 10 (λ e. omega arith), le-leb 48 (48 + d) (omega arith), le-leb (48 + d) 57 (omega arith), back, le-leb (10 * unwrap_or had 0 + d) (largest element negative) k)

  further_read : (negative : Bool) (m : ℕ) (ds rest : List ℕ) → AllDigits ds → value_after m ds ≤ largest element negative →
      after_bytes (reading (Value (record { negative = negative; magnitude = Some m }))) (digit_bytes ds ++ rest)
      ≡ after_bytes (reading (Value (record { negative = negative; magnitude = Some (value_after m ds) }))) rest
  unfolding after_bytes value_after
  further_read negative m [] rest a h = refl
  further_read negative m (d ∷ ds) rest a h =
      ap (λ (s : Progress). after_bytes s (digit_bytes ds ++ rest)) (digit_read negative (Some m) d a.0 (le_trans (grows (10 * m + d) ds) h))
      ∙ further_read negative (10 * m + d) ds rest a.1 h

  minus_read : is_signed element ≡ true → step (reading (Value unwritten)) 45 ≡ reading (Value minus)
  unfolding step within valued takes_minus
  minus_read e = rw e

  signed_read : (negative : Bool) (first : ℕ) (further rest : List ℕ) → first ≤ 9 → AllDigits further → (negative ≡ true → is_signed element ≡ true) → value_after first further ≤ largest element negative →
      after_bytes (reading (Value unwritten)) (cond negative (45 ∷ []) [] ++ ((48 + first) ∷ (digit_bytes further ++ rest)))
      ≡ after_bytes (reading (Value (record { negative = negative; magnitude = Some (value_after first further) }))) rest
  unfolding after_bytes
  signed_read false first further rest h a g k =
      let z : 10 * 0 + first ≡ first = omega arith in
      let one = rw z at (digit_read false None first h (rw z (le_trans (grows first further) k))) in
      ap (λ (s : Progress). after_bytes s (digit_bytes further ++ rest)) one ∙ further_read false first further rest a k
  signed_read true first further rest h a g k =
      let z : 10 * 0 + first ≡ first = omega arith in
      let one = rw z at (digit_read true None first h (rw z (le_trans (grows first further) k))) in
      ap (λ (s : Progress). after_bytes (step s (48 + first)) (digit_bytes further ++ rest)) (minus_read (g refl))
      ∙ ap (λ (s : Progress). after_bytes s (digit_bytes further ++ rest)) one
      ∙ further_read true first further rest a k

  ended_read : (w : Numeral) (rest : List ℕ) →
      after_bytes (reading (Value (read_number w))) (10 ∷ rest)
      ≡ after_bytes (record { line = line + 1; element = element + 1; place = Start; elements = stored el element (read_number w) }) rest
  unfolding after_bytes step ended
  ended_read w rest = refl

  -- ---- a line
  abbrev pub NameTaken : Type 0
  NameTaken = (rest : List ℕ) → after_bytes (reading Start) (name_of element ++ (32 ∷ rest)) ≡ after_bytes (reading (Value unwritten)) rest

  pub line_read : NameTaken → (w : Numeral) (rest : List ℕ) → Plain element w →
      after_bytes (reading Start) (line_of element w ++ rest)
      ≡ after_bytes (record { line = line + 1; element = element + 1; place = Start; elements = stored el element (read_number w) }) rest
  unfolding line_of value_bytes
  line_read name w rest p =
      simp append_assoc (name _ ∙ signed_read w.negative w.first w.further (10 ∷ rest) p.leading p.following p.signed p.held ∙ ended_read w rest)

names_taken : (line element : ℕ) (el : Elements) → element < 12 → NameTaken line element el
unfolding after_bytes name_of names step within begun named name_byte
names_taken line zero el h = λ rest. refl
names_taken line (suc zero) el h = λ rest. refl
names_taken line (suc (suc zero)) el h = λ rest. refl
names_taken line (suc (suc (suc zero))) el h = λ rest. refl
names_taken line (suc (suc (suc (suc zero)))) el h = λ rest. refl
names_taken line (suc (suc (suc (suc (suc zero))))) el h = λ rest. refl
names_taken line (suc (suc (suc (suc (suc (suc zero)))))) el h = λ rest. refl
names_taken line (suc (suc (suc (suc (suc (suc (suc zero))))))) el h = λ rest. refl
names_taken line (suc (suc (suc (suc (suc (suc (suc (suc zero)))))))) el h = λ rest. refl
names_taken line (suc (suc (suc (suc (suc (suc (suc (suc (suc zero))))))))) el h = λ rest. refl
names_taken line (suc (suc (suc (suc (suc (suc (suc (suc (suc (suc zero)))))))))) el h = λ rest. refl
names_taken line (suc (suc (suc (suc (suc (suc (suc (suc (suc (suc (suc zero))))))))))) el h = λ rest. refl
names_taken line (suc (suc (suc (suc (suc (suc (suc (suc (suc (suc (suc (suc k)))))))))))) el h = absurd (omega arith)

-- ---- a file
stored_from : ℕ → ℕ → (ℕ → Numeral) → Elements → Elements
stored_from element zero w el = el
stored_from element (suc n) w el = stored_from (element + 1) n w (stored el element (read_number (w element)))

lines_read : (line element n : ℕ) (w : ℕ → Numeral) (el : Elements) → element + n ≤ 12 → ((k : ℕ) → k < 12 → Plain k (w k)) →
    after_bytes (record { line = line; element = element; place = Start; elements = el }) (lines_from element n w)
    ≡ record { line = line + n; element = element + n; place = Start; elements = stored_from element n w el }
unfolding after_bytes lines_from stored_from
lines_read line element zero w el h p = simp add-zero
lines_read line element (suc n) w el h p =
    let due : element < 12 = omega arith in
    let l : line + 1 + n ≡ line + suc n = omega arith in
    let e : element + 1 + n ≡ element + suc n = omega arith in
    line_read line element el (names_taken line element el due) (w element) (lines_from (element + 1) n w) (p element due)
    ∙ rw (l, e) at (lines_read (line + 1) (element + 1) n w (stored el element (read_number (w element))) (omega arith) p)

-- every plain file is taken, and gives the elements that it writes
pub plain_taken : (w : ℕ → Numeral) → ((k : ℕ) → k < 12 → Plain k (w k)) → length (lines_from 0 12 w) ≤ 65535 → parsed (lines_from 0 12 w) ≡ Ok (written_elements w)
unfolding parsed start concluded stored_from stored
plain_taken w p h = rw (le-ltb 65535 (length (lines_from 0 12 w)) h, lines_read 1 0 12 w _ (omega arith) p)
