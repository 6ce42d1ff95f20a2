-- Worked results: bytes consumed, records done and the finishing code of captures that end in every way.
-- Assumes nothing.
use Rattle.std.specs.Prelude.{◌≡◌, ℕ, List, [], ◌∷◌, map, refl}
use Rattle.capture.specs.Opened.{capture_opened}
use Rattle.listing_loop.specs.declared.steps.Listed.{Listed}
use Rattle.listing_loop.specs.List.{whole, listed_of}

pub record Worked : Type 0 where
  pub capture : List ℕ
  pub result : Listed

abbrev gives : List ℕ → ℕ → ℕ → ℕ → Worked
gives capture consumed done code =
    record { capture = capture; result = record { consumed = consumed; done = done; code = code; failure = whole } }

-- in order: nothing; no device count, no variant; part of a header; no records; a record of two, and two bytes more; both; a byte more; a
-- kind and an operand refused, of which three bytes are consumed
abbrev pub captures : List Worked
captures =
    gives [] 0 0 6 ∷
    gives (0x00 ∷ []) 0 0 1 ∷
    gives (0x01 ∷ 0x04 ∷ 0x00 ∷ []) 1 0 2 ∷
    gives (0x01 ∷ 0x01 ∷ 0x00 ∷ []) 3 0 6 ∷
    gives (0x01 ∷ 0x01 ∷ 0x00 ∷ 0x00 ∷ 0x00 ∷ 0x00 ∷ []) 6 0 0 ∷
    gives (0x01 ∷ 0x01 ∷ 0x00 ∷ 0x00 ∷ 0x00 ∷ 0x02 ∷ 0x05 ∷ 0x14 ∷ 0x00 ∷ 0x00 ∷ []) 10 1 6 ∷
    gives (0x01 ∷ 0x01 ∷ 0x00 ∷ 0x00 ∷ 0x00 ∷ 0x02 ∷ 0x05 ∷ 0x14 ∷ 0x00 ∷ 0x00 ∷ 0x02 ∷ 0x4C ∷ []) 12 1 6 ∷
    gives (0x01 ∷ 0x01 ∷ 0x00 ∷ 0x00 ∷ 0x00 ∷ 0x02 ∷ 0x05 ∷ 0x14 ∷ 0x00 ∷ 0x00 ∷ 0x02 ∷ 0x4C ∷ 0x00 ∷ 0x00 ∷ []) 14 2 0 ∷
    gives (0x01 ∷ 0x01 ∷ 0x00 ∷ 0x00 ∷ 0x00 ∷ 0x02 ∷ 0x05 ∷ 0x14 ∷ 0x00 ∷ 0x00 ∷ 0x02 ∷ 0x4C ∷ 0x00 ∷ 0x00 ∷ 0x01 ∷ []) 14 2 5 ∷
    gives (0x01 ∷ 0x01 ∷ 0x00 ∷ 0x00 ∷ 0x00 ∷ 0x02 ∷ 0x05 ∷ 0x14 ∷ 0x00 ∷ 0x00 ∷ 0x09 ∷ 0x00 ∷ 0x00 ∷ 0x00 ∷ []) 13 1 3 ∷
    gives (0x01 ∷ 0x01 ∷ 0x00 ∷ 0x00 ∷ 0x00 ∷ 0x02 ∷ 0x05 ∷ 0x14 ∷ 0x00 ∷ 0x00 ∷ 0x02 ∷ 0x80 ∷ 0x00 ∷ 0x00 ∷ []) 13 1 4 ∷
    []

pub worked : map (λ (w : Worked). listed_of w.capture) captures ≡ map (λ (w : Worked). w.result) captures
unfolding capture_opened
worked = refl
