-- The ways in which a call ends. Assumes nothing.
use mathlib.Core.Path.{◌≡◌}
use mathlib.Core.Bool.{Bool, true, false}
use Prim.Native.Nat.{ℕ}
use mathlib.Core.List.{List}
use Rattle.statuses.specs.Call.{Call, Outcome, refused, given, ended, call_of, BufferCall, BufferOutcome, rejected, written, buffer_call_of}

module _ (lengths : Bool) (outcome : Outcome) (buffer : List ℕ) where
  -- a length is not the header's
  pub bad_buffer : lengths ≡ false → ◌≡◌ {A = Call} (record { status = 255; answer = buffer }) (call_of lengths outcome buffer)
  unfolding call_of
  bad_buffer e = rw (e, call_of)

  pub ends : lengths ≡ true → call_of lengths outcome buffer ≡ ended outcome buffer
  unfolding call_of
  ends e = rw (e, call_of)

  pub ends_refused : {number status : ℕ} → status ≡ number → lengths ≡ true → outcome ≡ refused number → ◌≡◌ {A = Call} (record { status = status; answer = buffer }) (call_of lengths outcome buffer)
  unfolding call_of
  ends_refused s e o = rw (s, e, o, call_of)

  pub ends_given : {after bytes : List ℕ} → after ≡ bytes → lengths ≡ true → outcome ≡ given bytes → ◌≡◌ {A = Call} (record { status = 0; answer = after }) (call_of lengths outcome buffer)
  unfolding call_of
  ends_given a e o = rw (a, e, o, call_of)

-- ---- a call that writes a buffer beside its answer

module _ (lengths : Bool) (outcome : BufferOutcome) (buffer answer : List ℕ) where
  pub bad_buffers : lengths ≡ false → ◌≡◌ {A = BufferCall} (record { status = 255; buffer = buffer; answer = answer }) (buffer_call_of lengths outcome buffer answer)
  unfolding buffer_call_of
  bad_buffers e = rw (e, buffer_call_of)

  pub ends_rejected : {number status : ℕ} {after : List ℕ} → status ≡ number → after ≡ buffer → lengths ≡ true → outcome ≡ rejected number
      → ◌≡◌ {A = BufferCall} (record { status = status; buffer = after; answer = answer }) (buffer_call_of lengths outcome buffer answer)
  unfolding buffer_call_of
  ends_rejected s a e o = rw (s, a, e, o, buffer_call_of)

  pub ends_written : {m after b bytes : List ℕ} → m ≡ after → b ≡ bytes → lengths ≡ true → outcome ≡ written after bytes
      → ◌≡◌ {A = BufferCall} (record { status = 0; buffer = m; answer = b }) (buffer_call_of lengths outcome buffer answer)
  unfolding buffer_call_of
  ends_written a b e o = rw (a, b, e, o, buffer_call_of)
