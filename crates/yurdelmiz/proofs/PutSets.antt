-- A put call with status 0, and a find call in the table that it left. Assumes nothing.
use mathlib.Core.Path.{◌≡◌, refl, sym, ap}
use Prim.Native.Nat.{ℕ, ◌*◌, ◌<◌}
use native.Mathlib.Omega.{arith}
use mathlib.Core.Bool.{true}
use mathlib.Core.List.{List}
use lib.ListN.{length, get_or}
use borrow.Author.Tests.{eq-eqb}
use Rattle.refusal.proofs.Numbers.{never_0}
use Rattle.endian.specs.LittleEndian.{bytes8}
use Rattle.elements_buffer.specs.Buffer.{elements_of, elements_bytes}
use Rattle.elements_buffer.proofs.ElementsBack.{elements_held}
use Rattle.element_sets.specs.Table.{row_size, row_at, is_table_in}
use Rattle.element_sets.specs.Putting.{putting, with_set}
use Rattle.element_sets.proofs.AfterPutting.{new_set_found}
use Rattle.buffers.specs.Answers.{found_bytes}
use Rattle.statuses.proofs.Endings.{ends_given}
use Rattle.yurdelmiz.specs.Calls.{find_outcome, find_set_call, put_outcome, put_set_call}
use Rattle.yurdelmiz.proofs.AcceptedCalls.{BufferEnding, buffer_accepted}
use Rattle.refusal.specs.declared.Refusal.{Refusal}
use Rattle.std.specs.Prelude.{Err, Ok, Result}

-- the row whose offset a find call gives, as one of the past, for the time of the new set
pub record FoundSet (elements table forecast : List ℕ) (end forecast_size : ℕ) (out : List ℕ) : Type 0 where
  pub number : ℕ
  pub found : find_set_call table end forecast forecast_size (elements_of elements).epoch out ≡ record { status = 0; answer = found_bytes (row_size * number) 0 }
  pub row : row_at table number ≡ elements_bytes (elements_of elements)

-- the buffer and the answer are those of the definition, and a find call with the table as the past gives the new set for its epoch
pub record PutSetAnswer (elements buffer : List ℕ) (size : ℕ) (answer : List ℕ) : Type 0 where
  pub end : ℕ
  pub put : putting (elements_of elements) buffer size ≡ Ok end
  pub buffer_is : (put_set_call elements buffer size answer).buffer ≡ with_set (elements_of elements) buffer size
  pub answer_is : (put_set_call elements buffer size answer).answer ≡ bytes8 end
  pub finds : (forecast : List ℕ) (forecast_size : ℕ) → is_table_in forecast forecast_size ≡ true → (out : List ℕ) → length out ≡ 12
      → FoundSet elements (put_set_call elements buffer size answer).buffer forecast end forecast_size out

module _ (elements buffer : List ℕ) (size : ℕ) (answer : List ℕ) (bytes : (i : ℕ) → get_or elements i 0 < 256) where
  by : (p : Result ℕ Refusal) → putting (elements_of elements) buffer size ≡ p
      → BufferEnding (put_outcome p (with_set (elements_of elements) buffer size)) (put_set_call elements buffer size answer)
      → PutSetAnswer elements buffer size answer
  unfolding find_set_call
  by (Err refusal) e g = absurd (omega (arith, never_0 refusal))
  by (Ok end) e g =
      record {
        end = end;
        put = e;
        buffer_is = g.0;
        answer_is = g.1;
        finds = λ forecast forecast_size f out k.
            let n = new_set_found (elements_of elements) buffer size end (record { held = elements_held elements bytes; put = e }) forecast forecast_size f in
            record {
              number = n.number;
              found = rw g.0 (sym (ends_given _ _ out refl (eq-eqb _ 12 k) (ap find_outcome n.found)));
              row = rw g.0 n.is;
            };
      }

  pub put_set_accepted : (put_set_call elements buffer size answer).status ≡ 0 → PutSetAnswer elements buffer size answer
  unfolding put_set_call
  put_set_accepted s = by (putting (elements_of elements) buffer size) refl (buffer_accepted _ _ buffer answer s)
