-- How reading backwards goes: `back_ind`, what holds where it ends and is handed on from the records behind it holds of every reading. And what the records
-- read are: `onto`, their events in order.
-- Assumes nothing.
use Prim.Native.Nat.{ℕ, ◌+◌}
use mathlib.Core.Path.{◌≡◌, refl, sym, ap, ◌∙◌}
use mathlib.Core.Bool.{true, false}
use mathlib.Core.List.{List, [], ◌∷◌, ◌++◌, reverse, reverse_aux, reverse-append, append_assoc}
use native.Mathlib.Omega.{arith}
use lib.ListN.{length}
use Rattle.laws.proofs.Choices.{by_test}
use Rattle.device.specs.declared.Device.{Device}
use Rattle.device.specs.declared.Event.{Event}
use Rattle.device.specs.Step.{step_of}
use Rattle.device.specs.Run.{after_of}
use Rattle.record.specs.Record.{Record}
use Rattle.std.specs.Prelude.{Ok, Err}
use Rattle.record.specs.declared.refusal.Refusal.{Refusal}
use Rattle.record.specs.Record.{code_of}
use Rattle.record.specs.Fours.{Quad, quads, quad_of, event_then, events_in}
use Rattle.soak.specs.declared.Soaked.{Soaked}
use Rattle.soak.specs.Soak.{met_of, latest_first, both_decided, refuses_of, answers_of, back_of}
use Rattle.soak.proofs.Runs.{AllConvert, converts, met_read}
use Rattle.soak.proofs.Loop.{valid, refusal_code, back_none, back_decided, back_refused, back_met}
use Rattle.soak_laws.specs.Stretch.{Whole, AllConversions}

-- ---- a record

pub by_record : {P : Type 0} (r : Record) → ((e : Event) → r ≡ Ok e → P) → ((why : Refusal) → r ≡ Err why → P) → P
by_record (Ok e) f g = f e refl
by_record (Err why) f g = g why refl

pub valid_code : (e : Event) → code_of (Ok e) ≡ 0
unfolding code_of
valid_code e = refl

-- ---- a reading

module _ (d : Device) (P : List Event → List Quad → Soaked → Type 0)
    (start : (read : List Event) → P read [] (answers_of d read))
    (decided : (read : List Event) (q : Quad) (qs : List Quad) → both_decided d read ≡ true → P read (q ∷ qs) (answers_of d read))
    (refused : (read : List Event) (q : Quad) (qs : List Quad) (why : Refusal) → both_decided d read ≡ false → met_of q ≡ Err why
    → P read (q ∷ qs) (refuses_of (code_of (Err why)) (length read + 1)))
    (further : (read : List Event) (q : Quad) (qs : List Quad) (e : Event) (r : Soaked) → both_decided d read ≡ false → met_of q ≡ Ok e
    → P (e ∷ read) qs r → P read (q ∷ qs) r) where
  pub back_ind : (qs : List Quad) (read : List Event) → P read qs (back_of d read qs)
  back_ind [] read = rw (back_none d read) (start read)
  back_ind (q ∷ qs) read =
      by_test (both_decided d read)
      (λ y. rw (back_decided d read (q ∷ qs) y) (decided read q qs y))
      (λ y. by_record (met_of q)
      (λ e m. rw (back_met d read q qs e y m) (further read q qs e (back_of d (e ∷ read) qs) y m (back_ind qs (e ∷ read))))
      (λ why m. rw (back_refused d read q qs y (λ z. refusal_code why (rw m at z)), m) (refused read q qs why y m)))

-- ---- the records read

abbrev pub onto_met : Record → (Event → List Event) → List Event → List Event
onto_met (Ok e) further read = further e
onto_met (Err why) further read = read

-- the events of records, the latest first, put before those read
abbrev pub onto : List Quad → List Event → List Event
onto [] read = read
onto (q ∷ qs) read = onto_met (met_of q) (λ (e : Event). onto qs (e ∷ read)) read

pub onto_met_lem : (q : Quad) (qs : List Quad) (read : List Event) (e : Event) → met_of q ≡ Ok e → onto (q ∷ qs) read ≡ onto qs (e ∷ read)
onto_met_lem q qs read e m = rw m

-- they are those of the records in order
pub onto_events : (qs : List Quad) → AllConversions qs → (before : List Quad) → onto qs (events_in 1 before) ≡ events_in 1 (reverse_aux qs before)
onto_events [] all before = refl
onto_events (q ∷ qs) all before =
    let v = valid (met_of q) all.0 in
    let read : quad_of 1 q ≡ Ok v.event = (met_read q v.event v.is).1 in
    onto_met_lem q qs (events_in 1 before) v.event v.is
    ∙ ap (onto qs) (ap (λ (r : Record). event_then r (events_in 1 before)) (sym read))
    ∙ onto_events qs all.1 (q ∷ before)

pub onto_length : (qs : List Quad) (read : List Event) → AllConversions qs → length (onto qs read) ≡ length read + length qs
onto_length [] read all = omega arith
onto_length (q ∷ qs) read all =
    let v = valid (met_of q) all.0 in
    rw (onto_met_lem q qs read v.event v.is) (omega (arith, onto_length qs (v.event ∷ read) all.1))

pub onto_convert : (qs : List Quad) → AllConversions qs → (read : List Event) → AllConvert read → AllConvert (onto qs read)
onto_convert [] all read c = c
onto_convert (q ∷ qs) all read c =
    let v = valid (met_of q) all.0 in
    rw (onto_met_lem q qs read v.event v.is) (onto_convert qs all.1 (v.event ∷ read) (converts q v.event v.is, c))

-- ---- stretches joined

-- whole records in front are records of the whole
pub quads_joined : (before tail : List ℕ) → Whole before → quads (before ++ tail) ≡ quads before ++ quads tail
quads_joined [] tail w = refl
quads_joined (k ∷ []) tail w = absurd (omega arith)
quads_joined (k ∷ a ∷ []) tail w = absurd (omega arith)
quads_joined (k ∷ a ∷ b ∷ []) tail w = absurd (omega arith)
quads_joined (k ∷ a ∷ b ∷ c ∷ xs) tail w =
    ap (λ (qs : List Quad). record { kind = k; a = a; b = b; c = c } ∷ qs) (quads_joined xs tail (omega arith))

pub latest_joined : (before tail : List ℕ) → Whole before → latest_first (before ++ tail) ≡ latest_first tail ++ latest_first before
latest_joined before tail w = ap reverse (quads_joined before tail w) ∙ reverse-append (quads before) (quads tail)

-- ---- runs joined

pub after_joined : (es fs : List Event) (d : Device) → after_of d (es ++ fs) ≡ after_of (after_of d es) fs
after_joined [] fs d = refl
after_joined (e ∷ es) fs d = after_joined es fs (step_of d e).device

-- the events put before those read, by themselves
pub record Front (qs : List Quad) : Type 0 where
  pub events : List Event
  pub convert : AllConvert events
  pub is : (read : List Event) → onto qs read ≡ events ++ read

convert_joined : (es fs : List Event) → AllConvert es → AllConvert fs → AllConvert (es ++ fs)
convert_joined [] fs c k = k
convert_joined (e ∷ es) fs c k = (c.0, convert_joined es fs c.1 k)

pub front : (qs : List Quad) → AllConversions qs → Front qs
front [] all = record { events = []; convert = tt; is = λ (read : List Event). refl }
front (q ∷ qs) all =
    let v = valid (met_of q) all.0 in
    let f = front qs all.1 in
    record {
      events = f.events ++ (v.event ∷ []);
      convert = convert_joined f.events (v.event ∷ []) f.convert (converts q v.event v.is, tt);
      is = λ (read : List Event). onto_met_lem q qs read v.event v.is ∙ f.is (v.event ∷ read) ∙ sym (append_assoc f.events (v.event ∷ []) read);
    }
