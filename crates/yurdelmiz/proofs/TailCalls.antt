-- yurdelmiz_dark_test of a file's tail and yurdelmiz_read of the file agree. Assumes nothing.
use mathlib.Core.Path.{◌≡◌, refl, sym, ap, ◌∙◌}
use Prim.Native.Nat.{ℕ, ◌<◌}
use native.Mathlib.Omega.{arith}
use mathlib.Core.List.{List}
use lib.ListN.{length}
use borrow.Author.Tests.{eq-eqb}
use Rattle.endian.specs.LittleEndian.{le4, bytes4, words}
use Rattle.endian.proofs.RoundTrip.{back4}
use Rattle.refusal.specs.Numbers.{number_of}
use Rattle.refusal.specs.declared.Refusal.{Refusal}
use Rattle.refusal.specs.declared.Refusal.TheVariants.{Trailer}
use Rattle.refusal.proofs.Numbers.{never_0, one_each}
use Rattle.trailer.specs.declared.Counts.{Counts}
use Rattle.trailer.specs.declared.Form.{Form}
use Rattle.trailer.specs.declared.Form.TheVariants.{Bytes16, Bytes24}
use Rattle.trailer.specs.Counts.{counts_of, contents_of}
use Rattle.trailer.specs.Trailer.{trailer_size, stating}
use Rattle.label_file.specs.Reading.{file_reading}
use Rattle.label_file.specs.Tail.{tail_in, tail_reading, SaysOf}
use Rattle.label_file.proofs.Readings.{read_whole}
use Rattle.trailer.proofs.Trailers.{size_bounds, trailer_says}
use Rattle.label_file.proofs.Accepted.{accepted_file}
use Rattle.label_file.proofs.Tails.{tail_says}
use Rattle.buffers.specs.Answers.{counts_bytes, read_bytes, not_held}
use Rattle.statuses.specs.Call.{Call, ended}
use Rattle.yurdelmiz.specs.Calls.{read_outcome, read_call, dark_test_outcome, dark_test_call}
use Rattle.yurdelmiz.specs.TailOfFile.{whole, asked, TailOfFile}
use Rattle.statuses.proofs.Endings.{ends}
use Rattle.refusal.specs.Refused.{refused_at}
use Rattle.refusal.specs.declared.RefusedAt.{RefusedAt}
use Rattle.std.specs.Prelude.{Err, None, Ok, Option, Result, Some}
use Rattle.trailer.specs.declared.Contents.{Contents}

-- ---- the bytes of a read call's answer

form_in_answer : (form : Form) (c : Counts) → le4 (read_bytes form c) 20 ≡ trailer_size form
unfolding read_bytes counts_bytes words bytes4
form_in_answer form c = back4 (trailer_size form) (omega (arith, size_bounds form))

dark_test_in_answer : (form : Form) (c : Counts) → c.dark_test < 4294967296 → le4 (read_bytes form c) 16 ≡ c.dark_test
unfolding read_bytes counts_bytes words bytes4
dark_test_in_answer form c h = back4 c.dark_test h

-- ---- the two calls

module _ (file out answer : List ℕ) (out_length : length out ≡ 24) (answer_length : length answer ≡ 4) where
  abbrev told : Result (Option ℕ) Refusal
  told = tail_reading (tail_in file) (length file)

  abbrev says : SaysOf file told
  says = tail_says file

  asked_by : {t : Result (Option ℕ) Refusal} → told ≡ t → asked file answer ≡ ended (dark_test_outcome t) answer
  unfolding dark_test_call
  asked_by e = ends _ _ answer (eq-eqb _ 4 answer_length) ∙ ap (λ (t : Result (Option ℕ) Refusal). ended (dark_test_outcome t) answer) e

  whole_by : {r : Result Contents RefusedAt} → file_reading file ≡ r → whole file out ≡ ended (read_outcome r) out
  unfolding read_call
  whole_by e = ends _ _ out (eq-eqb _ 24 out_length) ∙ ap (λ (r : Result Contents RefusedAt). ended (read_outcome r) out) (read_whole file ∙ e)

  asked_status : {t : Result (Option ℕ) Refusal} → told ≡ t → (asked file answer).status ≡ (ended (dark_test_outcome t) answer).status
  asked_status e = ap (λ (c : Call). c.status) (asked_by e)

  whole_status : {r : Result Contents RefusedAt} → file_reading file ≡ r → (whole file out).status ≡ (ended (read_outcome r) out).status
  whole_status e = ap (λ (c : Call). c.status) (whole_by e)

  refused_by : (t : Result (Option ℕ) Refusal) → told ≡ t → (asked file answer).status ≡ 12 → (whole file out).status ≡ 12
  refused_by (Err r) e s =
      whole_status (says.refused (e ∙ ap Err (one_each r Trailer (sym (asked_status e) ∙ s))))
  refused_by (Ok None) e s = absurd (omega (arith, sym (asked_status e) ∙ s))
  refused_by (Ok (Some n)) e s = absurd (omega (arith, sym (asked_status e) ∙ s))

  refuses_by : (r : Result Contents RefusedAt) → file_reading file ≡ r → (whole file out).status ≡ 12 → (asked file answer).status ≡ 12
  refuses_by (Err error) e s =
      let number : number_of error.refusal ≡ 12 = omega (arith, sym (whole_status e) ∙ s, never_0 error.refusal) in
      let is = one_each error.refusal Trailer number in
      asked_status (says.refuses error.place (e ∙ ap (λ (x : Refusal). Err (refused_at x error.place)) is))
  refuses_by (Ok contents) e s = absurd (omega (arith, sym (whole_status e) ∙ s))

  -- of an accepted file
  form_by : (form : Form) (c : Counts) → file_reading file ≡ Ok (contents_of form c) → le4 (whole file out).answer 20 ≡ trailer_size form
  form_by form c e = ap (λ (x : Call). le4 x.answer 20) (whole_by e) ∙ form_in_answer form c

  held_in : (form : Form) (c : Counts) → file_reading file ≡ Ok (contents_of form c) → le4 (whole file out).answer 20 ≡ 24
      → asked file answer ≡ record { status = 0; answer = bytes4 (le4 (whole file out).answer 16) }
  unfolding trailer_size stating counts_of
  held_in Bytes16 c e f = absurd (omega (arith, sym (form_by Bytes16 c e) ∙ f))
  held_in Bytes24 c e f =
      let a = accepted_file file Bytes24 c e in
      let t = trailer_says file _ Bytes24 c a.trailer in
      let n = ap (λ (x : Call). le4 x.answer 16) (whole_by e) ∙ dark_test_in_answer Bytes24 c (omega (arith, t.placed.few, t.bounded.dark, t.bounded.dark_test)) in
      asked_by (says.held c e ∙ sym (ap (λ (x : Counts). Ok (Some x.dark_test)) a.counts) ∙ ap (λ k. Ok (Some k)) (sym n))

  held_by : (r : Result Contents RefusedAt) → file_reading file ≡ r → (whole file out).status ≡ 0 → le4 (whole file out).answer 20 ≡ 24
      → asked file answer ≡ record { status = 0; answer = bytes4 (le4 (whole file out).answer 16) }
  held_by (Err error) e s f = absurd (omega (arith, sym (whole_status e) ∙ s, never_0 error.refusal))
  held_by (Ok contents) e s f = held_in contents.form contents.counts e f

  not_held_in : (form : Form) (c : Counts) → file_reading file ≡ Ok (contents_of form c) → le4 (whole file out).answer 20 ≡ 16
      → asked file answer ≡ record { status = 0; answer = bytes4 not_held }
  unfolding trailer_size
  not_held_in Bytes24 c e f = absurd (omega (arith, sym (form_by Bytes24 c e) ∙ f))
  not_held_in Bytes16 c e f = asked_by (says.is_not_held c e)

  not_held_by : (r : Result Contents RefusedAt) → file_reading file ≡ r → (whole file out).status ≡ 0 → le4 (whole file out).answer 20 ≡ 16
      → asked file answer ≡ record { status = 0; answer = bytes4 not_held }
  not_held_by (Err error) e s f = absurd (omega (arith, sym (whole_status e) ∙ s, never_0 error.refusal))
  not_held_by (Ok contents) e s f = not_held_in contents.form contents.counts e f

  pub tail_of_file : TailOfFile file out answer
  tail_of_file =
      record {
        refused = λ s. refused_by told refl s;
        refuses = λ s. refuses_by (file_reading file) refl s;
        held = λ s f. held_by (file_reading file) refl s f;
        is_not_held = λ s f. not_held_by (file_reading file) refl s f;
      }
