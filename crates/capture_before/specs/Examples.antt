-- Worked captures under both definitions, today's and that before request c: with one device both give what the paper says; with two they part.
-- Assumes nothing.
use Rattle.std.specs.Prelude.{ℕ, ◌≡◌, refl, List, [], ◌∷◌, map}
use Rattle.capture.specs.Opened.{capture_opened}
use Rattle.capture.specs.Whole.{whole_of}
use Rattle.capture_before.specs.BeforePair as before

-- what can be checked by hand of an outcome: all but the devices
pub record Summary : Type 0 where
  pub code : ℕ
  pub consumed : ℕ
  pub answers : List ℕ
  pub finishing : ℕ
  pub head : ℕ
  pub count : ℕ
  pub done : ℕ
  pub carried : ℕ
  pub bytes : List ℕ
  pub held : ℕ

abbrev today : List ℕ → Summary
today xs =
    let w = whole_of xs in
    let s = w.reader in
    record {
      code = w.code;
      consumed = w.consumed;
      answers = w.answers;
      finishing = w.finishing;
      head = s.head;
      count = s.count;
      done = s.done;
      carried = s.carried;
      bytes = s.bytes;
      held = s.held;
    }

abbrev then : List ℕ → Summary
then xs =
    let w = before.whole_of xs in
    let s = w.reader in
    record {
      code = w.code;
      consumed = w.consumed;
      answers = w.answers;
      finishing = w.finishing;
      head = s.head;
      count = s.count;
      done = s.done;
      carried = s.carried;
      bytes = s.bytes;
      held = s.held;
    }

-- ---- one device

-- document 01's listing
abbrev listing : List ℕ
listing =
    0x01 ∷ 0x01 ∷ 0x00 ∷ 0x00 ∷ 0x00 ∷ 0x09 ∷
    0x01 ∷ 0x4C ∷ 0x19 ∷ 0x55 ∷
    0x01 ∷ 0x4C ∷ 0x0D ∷ 0x7F ∷
    0x05 ∷ 0x19 ∷ 0x55 ∷ 0x20 ∷
    0x02 ∷ 0x4C ∷ 0x02 ∷ 0x00 ∷
    0x01 ∷ 0x4C ∷ 0x21 ∷ 0x05 ∷
    0x05 ∷ 0x19 ∷ 0x50 ∷ 0x00 ∷
    0x05 ∷ 0x19 ∷ 0x4F ∷ 0xE0 ∷
    0x02 ∷ 0x4C ∷ 0x03 ∷ 0x00 ∷
    0x01 ∷ 0x4C ∷ 0x30 ∷ 0x00 ∷
    []

abbrev printed : List ℕ
printed =
    0x04 ∷ 0x00 ∷ 0x04 ∷ 0x00 ∷ 0x0B ∷ 0x00 ∷ 0x06 ∷ 0x02 ∷ 0x06 ∷ 0x00 ∷ 0x0A ∷ 0x00 ∷ 0x08 ∷ 0x00 ∷ 0x04 ∷ 0x80 ∷ 0x00 ∷ 0x00 ∷ []

-- a conversion, then a kind 08 with a bad operand: 3 comes before 4
abbrev second_kind : List ℕ
second_kind = 0x01 ∷ 0x03 ∷ 0x00 ∷ 0x00 ∷ 0x00 ∷ 0x02 ∷ 0x05 ∷ 0x14 ∷ 0x00 ∷ 0x00 ∷ 0x08 ∷ 0x14 ∷ 0x00 ∷ 0x01 ∷ []

-- a device count of 3
abbrev three_devices : List ℕ
three_devices = 0x03 ∷ 0x01 ∷ []

abbrev captures : List (List ℕ)
captures = listing ∷ second_kind ∷ three_devices ∷ []

-- refused at the device count
abbrev refused_count : Summary
refused_count =
    record { code = 1; consumed = 0; answers = []; finishing = 1; head = 0; count = 0; done = 0; carried = 0; bytes = 0 ∷ 0 ∷ 0 ∷ []; held = 1 }

abbrev summaries : List Summary
summaries =
    record { code = 0; consumed = 42; answers = printed; finishing = 0; head = 6; count = 9; done = 9; carried = 0; bytes = 0 ∷ 0 ∷ 0 ∷ []; held = 0 } ∷
    record { code = 3; consumed = 13; answers = 8 ∷ 0 ∷ []; finishing = 3; head = 6; count = 2; done = 1; carried = 3; bytes = 8 ∷ 20 ∷ 0 ∷ []; held = 3 } ∷
    refused_count ∷
    []

pub one_today : map today captures ≡ summaries
unfolding capture_opened
one_today = refl

pub one_before : map then captures ≡ summaries
unfolding capture_opened before.code_of before.decode_of before.records_of before.record_count_of before.variants_of before.whole_of
one_before = refl

-- ---- two devices, refused before

abbrev two_devices : List ℕ
two_devices = 0x02 ∷ 0x01 ∷ 0x02 ∷ 0x00 ∷ 0x00 ∷ 0x00 ∷ 0x00 ∷ []

pub two_today :
    today two_devices
    ≡ record { code = 0; consumed = 7; answers = []; finishing = 0; head = 7; count = 0; done = 0; carried = 0; bytes = 0 ∷ 0 ∷ 0 ∷ []; held = 0 }
unfolding capture_opened
two_today = refl

pub two_before : then two_devices ≡ refused_count
unfolding before.whole_of
two_before = refl
