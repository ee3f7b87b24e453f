-- Alike days in packets of which some are refused: those that are accepted are alike days that are cut alike. Assumes nothing.
use mathlib.Core.Path.{◌≡◌, refl, sym, ap, subst, ◌∙◌}
use mathlib.Core.List.{List, [], ◌∷◌, ◌++◌, append_assoc, append-nil}
use Prim.Native.Nat.{ℕ}
use native.Mathlib.Omega.{arith}
use lib.ListN.{length}
use Rattle.elements.specs.declared.Elements.{Elements}
use Rattle.packets.specs.Day.{opening_step}
use Rattle.packets.specs.Packet.{pending, unfinished}
use Rattle.packets.specs.SoFar.{SoFar}
use Rattle.packets.specs.Cutting.{Given, all_bytes, day_behind, day_from, AllAccepted}
use Rattle.packets.specs.declared.Day.{Day}
use Rattle.packets.proofs.TakenSoFar.{opening_makes, packet_keeps}
use Rattle.no_leak.specs.Alike.{AlikeDays}
use Rattle.no_leak.specs.Packets.{AlikeStates, SameSizes, outcome_of, SamePacket, GivenAlike, CutAlike, kept_by, kept, SomeRefused}
use Rattle.no_leak.proofs.AlikeRecords.{grown_alike}
use Rattle.no_leak.proofs.PacketSteps.{states_refl, refused_leaves, one_packet}
use Rattle.no_leak.proofs.PacketDays.{pending_is, elements_are, in_packets}
use Rattle.refusal.specs.declared.RefusedAt.{RefusedAt}
use Rattle.std.specs.Prelude.{Err, Ok, Result}

-- packets ks of gs, and ls of hs, behind some bytes
record Kept (el : Elements) (bytes bytes' : List ℕ) (d e : Day) (gs hs ks ls : List Given) : Type 0 where
  accepted : AllAccepted d ks
  day_is : day_from d gs ≡ day_from d ks
  day_is' : day_from e hs ≡ day_from e ls
  cut : CutAlike ks ls
  alike : AlikeDays el (bytes ++ all_bytes ks) (bytes' ++ all_bytes ls)

module _ (el : Elements) (bytes bytes' : List ℕ) (d e : Day) (g h : Given) (gs hs : List Given) (s : SoFar el bytes d) (t : SoFar el bytes' e) (sizes : SameSizes g h) (same : SamePacket d e g h)
    (alike : AlikeDays el bytes bytes') (records_alike : AlikeDays d.elements (pending d g.packet) (pending e h.packet)) where
  abbrev next : Day
  next = day_behind d g

  abbrev next' : Day
  next' = day_behind e h

  abbrev Rest : Type 0
  Rest = (b b' : List ℕ) → SoFar el b next → SoFar el b' next' → AlikeDays el b b' → Kept el b b' next next' gs hs (kept next gs) (kept next' hs)

  one_more : Rest → (o : Result Unit RefusedAt) → outcome_of d g ≡ o → Kept el bytes bytes' d e (g ∷ gs) (h ∷ hs) (kept_by o g (kept next gs)) (kept_by o h (kept next' hs))
  unfolding all_bytes day_from AllAccepted CutAlike
  one_more rest (Ok tt) a =
      let p = g.packet in
      let q = h.packet in
      let waiting : AlikeDays el (unfinished bytes ++ p) (unfinished bytes' ++ q) =
      subst (λ (x : Elements). AlikeDays x (unfinished bytes ++ p) (unfinished bytes' ++ q)) (elements_are el bytes d s)
      (rw (sym (pending_is el bytes p d s), sym (pending_is el bytes' q e t)) records_alike) in
      let r = rest (bytes ++ p) (bytes' ++ q) (packet_keeps el bytes p d (length g.output) s a) (packet_keeps el bytes' q e (length h.output) t (sym same.same_outcome ∙ a)) (grown_alike el bytes bytes' p q alike waiting) in
      record {
        accepted = (a, r.accepted);
        day_is = r.day_is;
        day_is' = r.day_is';
        cut = (sizes, r.cut);
        alike = rw (sym (append_assoc bytes p (all_bytes (kept next gs))), sym (append_assoc bytes' q (all_bytes (kept next' hs)))) r.alike;
      }
  one_more rest (Err error) a =
      let is = refused_leaves d g error.refusal error.place a in
      let is' = refused_leaves e h error.refusal error.place (sym same.same_outcome ∙ a) in
      let r = rest bytes bytes' (subst (SoFar el bytes) (sym is) s) (subst (SoFar el bytes') (sym is') t) alike in
      record {
        accepted = subst (λ (x : Day). AllAccepted x (kept next gs)) is r.accepted;
        day_is = r.day_is ∙ ap (λ (x : Day). day_from x (kept next gs)) is;
        day_is' = r.day_is' ∙ ap (λ (x : Day). day_from x (kept next' hs)) is';
        cut = r.cut;
        alike = r.alike;
      }

keeps : (el : Elements) (bytes bytes' : List ℕ) (d e : Day) (gs hs : List Given) → SoFar el bytes d → SoFar el bytes' e → AlikeStates d e → AlikeDays el bytes bytes' → GivenAlike d e gs hs
    → Kept el bytes bytes' d e gs hs (kept d gs) (kept e hs)
unfolding all_bytes day_from AllAccepted CutAlike GivenAlike kept
keeps el bytes bytes' d e [] [] s t states alike given =
    record { accepted = tt; day_is = refl; day_is' = refl; cut = tt; alike = rw (append-nil bytes, append-nil bytes') alike }
keeps el bytes bytes' d e [] (h ∷ hs) s t states alike given = absurd given
keeps el bytes bytes' d e (g ∷ gs) [] s t states alike given = absurd given
keeps el bytes bytes' d e (g ∷ gs) (h ∷ hs) s t states alike given =
    let same = one_packet d e g h states given.0 given.1 in
    subst (λ (o : Result Unit RefusedAt). Kept el bytes bytes' d e (g ∷ gs) (h ∷ hs) (kept d (g ∷ gs)) (kept_by o h (kept (day_behind e h) hs))) same.same_outcome
    (one_more el bytes bytes' d e g h gs hs s t given.0 same alike given.1
    (λ b b' u v a. keeps el b b' (day_behind d g) (day_behind e h) gs hs u v same.alike_states a given.2) (outcome_of d g) refl)

none_alike : (el : Elements) → AlikeDays el [] []
none_alike el = record { same_length = refl; alike_records = λ k b. absurd (omega arith) }

pub some_refused : SomeRefused
some_refused el gs hs last last' opened given same_room =
    let d = (opening_step el).day in
    let start = opening_makes el opened in
    let k = keeps el [] [] d d gs hs start start (states_refl d) (none_alike el) given in
    record {
      day_is = k.day_is;
      day_is' = k.day_is';
      all_accepted = k.accepted;
      same_day = (in_packets el (kept d gs) (kept d hs) last last' opened k.alike k.cut same_room).same_day k.accepted;
    }
