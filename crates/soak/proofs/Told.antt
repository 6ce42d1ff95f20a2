-- What a record reads, by the event that it decodes to under a device count of 1.
-- Assumes nothing.
use Prim.Native.Nat.{ℕ}
use mathlib.Core.Path.{◌≡◌, refl, sym, ap, ◌∙◌}
use mathlib.Core.Bool.{Bool, true, false, not, ◌||◌, ◌&&◌}
use mathlib.Core.List.{List, [], ◌∷◌}
use lib.Dec.{eqb}
use lib.ListN.{get_or}
use Rattle.std.specs.Prelude.{Ok, Err}
use Rattle.laws.proofs.Choices.{clash}
use Rattle.temperature.specs.Temperature.{open_reading}
use Rattle.conversion.specs.Conversion.{reading_of}
use Rattle.device.specs.declared.Event.{Event}
use Rattle.device.specs.declared.Event.TheVariants.{Write, Read, Send, Receive, Convert, Open, PowerOn, ConvertSecond, OpenSecond}
use Rattle.record.specs.declared.refusal.Refusal.{Refusal}
use Rattle.record.specs.declared.refusal.Refusal.TheVariants.{Kind}
use Rattle.record.specs.Record.{encode_of}
use Rattle.record.specs.Fours.{Quad, quad_of}
use Rattle.record.proofs.RoundTrip.{only_those}
use Rattle.soak.specs.Soak.{met_of}
use Rattle.soak.specs.Ends.{remote_of, readings_of}

-- a kind is 05 or 06, or it is neither
pub either : (a b : Bool) → (not a && not b) ≡ false → (a || b) ≡ true
either true b h = refl
either false true h = refl
either false false h = clash (sym h)

pub neither : (a b : Bool) → (not a && not b) ≡ true → (a || b) ≡ false
neither true b h = clash h
neither false true h = clash h
neither false false h = refl

module _ (s : List ℕ) (q : Quad) where
  pub another_kind : (eqb q.kind 0x05 || eqb q.kind 0x06) ≡ false → readings_of s q ≡ Err Kind
  unfolding met_of
  another_kind k = rw k

  module _ (k : (eqb q.kind 0x05 || eqb q.kind 0x06) ≡ true) where
    pub is_refused : (why : Refusal) → quad_of 1 q ≡ Err why → readings_of s q ≡ Err why
    unfolding met_of
    is_refused why p = rw (k, p)

    valid : (e : Event) → quad_of 1 q ≡ Ok e → readings_of s q ≡ Ok (q.a, remote_of s q.kind q.b q.c)
    unfolding met_of
    valid e p = rw (k, p)

    bytes : (e : Event) → quad_of 1 q ≡ Ok e → q.kind ∷ q.a ∷ q.b ∷ q.c ∷ [] ≡ encode_of e
    bytes e p = (only_those 1 q.kind q.a q.b q.c e p).bytes

    pub of_convert : (local high low : ℕ) → quad_of 1 q ≡ Ok (Convert local high low) → readings_of s q ≡ Ok (local, (reading_of s high low).eighths)
    unfolding encode_of remote_of
    of_convert local high low p =
        let b = bytes (Convert local high low) p in
        valid (Convert local high low) p
        ∙ rw (ap (λ (l : List ℕ). get_or l 0 0) b, ap (λ (l : List ℕ). get_or l 1 0) b, ap (λ (l : List ℕ). get_or l 2 0) b, ap (λ (l : List ℕ). get_or l 3 0) b)

    pub of_open : (local : ℕ) → quad_of 1 q ≡ Ok (Open local) → readings_of s q ≡ Ok (local, open_reading.eighths)
    unfolding encode_of remote_of
    of_open local p =
        let b = bytes (Open local) p in
        valid (Open local) p ∙ rw (ap (λ (l : List ℕ). get_or l 0 0) b, ap (λ (l : List ℕ). get_or l 1 0) b)

    pub no_other : (e : Event) → quad_of 1 q ≡ Ok e → ((x y z : ℕ) → e ≡ Convert x y z → ⊥) → ((x : ℕ) → e ≡ Open x → ⊥) → ⊥
    unfolding encode_of
    no_other e p = by_event e (bytes e p)
      where
        by_event : (e : Event) → q.kind ∷ q.a ∷ q.b ∷ q.c ∷ [] ≡ encode_of e → ((x y z : ℕ) → e ≡ Convert x y z → ⊥) → ((x : ℕ) → e ≡ Open x → ⊥) → ⊥
        by_event (Write x y z) b convert diode_open = clash (rw (ap (λ (l : List ℕ). get_or l 0 0) b) at k)
        by_event (Read x y) b convert diode_open = clash (rw (ap (λ (l : List ℕ). get_or l 0 0) b) at k)
        by_event (Send x y) b convert diode_open = clash (rw (ap (λ (l : List ℕ). get_or l 0 0) b) at k)
        by_event (Receive x) b convert diode_open = clash (rw (ap (λ (l : List ℕ). get_or l 0 0) b) at k)
        by_event (Convert x y z) b convert diode_open = convert x y z refl
        by_event (Open x) b convert diode_open = diode_open x refl
        by_event PowerOn b convert diode_open = clash (rw (ap (λ (l : List ℕ). get_or l 0 0) b) at k)
        by_event (ConvertSecond x y z) b convert diode_open = clash (rw (ap (λ (l : List ℕ). get_or l 0 0) b) at k)
        by_event (OpenSecond x) b convert diode_open = clash (rw (ap (λ (l : List ℕ). get_or l 0 0) b) at k)
