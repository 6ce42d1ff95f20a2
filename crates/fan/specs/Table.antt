-- Request g, the fan table of source document 000. Entries are numbered 1 to 8, as the page has them: step k is entry k, and step 0 is none. Temperatures are
-- whole degrees; a reading is one of -128 to 127, and a temperature less hysteresis goes below 0 with no wrap.
-- Assumes nothing.
use Rattle.std.specs.Prelude.{ℕ, zero, suc, ◌+◌, ◌*◌, ◌≤◌, ◌<◌, ◌≡◌, Bool, true, false, ◌&&◌, ◌||◌, cond, leb, ltb, ℤ, pos, ◌-ℤ◌}
use Rattle.std.specs.Prelude.{List, [], ◌∷◌, map, get_or}
use Rattle.std.specs.Int.Signed.{le_z}

-- ---- the table: eight pairs of temperature and PWM value

-- from sixteen bytes, a temperature and its PWM value eight times, in the order of registers 50 to 5F
abbrev pub table_of : List ℕ → List (List ℕ)
table_of bytes = map (λ (i : ℕ). get_or bytes (2 * i) 0 ∷ get_or bytes (2 * i + 1) 0 ∷ []) (0 ∷ 1 ∷ 2 ∷ 3 ∷ 4 ∷ 5 ∷ 6 ∷ 7 ∷ [])

-- entry k; step 0 is no entry
abbrev pub entry_of : List (List ℕ) → ℕ → List ℕ
entry_of table zero = []
entry_of table (suc i) = get_or table i []

abbrev pub temperature_of : List (List ℕ) → ℕ → ℕ
temperature_of table k = get_or (entry_of table k) 0 0

-- no entry means PWM value 0
abbrev pub value_of : List (List ℕ) → ℕ → ℕ
value_of table k = get_or (entry_of table k) 1 0

-- ---- the step after a reading

-- a reading reaches a temperature: it is at or above it (the request's "reach"; the page says "exceeds")
abbrev pub reaches : ℤ → ℤ → Bool
reaches reading temperature = le_z temperature reading

-- an entry stands: its temperature is reached, or, for an entry up to the earlier step, its temperature less hysteresis
unfoldable pub stands_of : ℕ → ℕ → Bool → ℤ → Bool
stands_of temperature hysteresis up_to reading = reaches reading (pos temperature) || (up_to && reaches reading (pos temperature -ℤ pos hysteresis))

abbrev pub entry_stands : List (List ℕ) → ℕ → ℕ → ℤ → ℕ → Bool
entry_stands table hysteresis earlier reading k = stands_of (temperature_of table k) hysteresis (leb k earlier) reading

-- s is the highest entry up to n of which f holds, or there is none and s is 0
pub record Highest (f : ℕ → Bool) (n s : ℕ) : Type 0 where
  pub within : s ≤ n
  pub holds : 0 < s → f s ≡ true
  pub above : (k : ℕ) → s < k → k ≤ n → f k ≡ false

-- the same to be computed (proofs/Entries.antt: highest_exactly)
unfoldable pub highest : (ℕ → Bool) → ℕ → ℕ
highest f zero = 0
highest f (suc n) = cond (f (suc n)) (suc n) (highest f n)

unfoldable pub step_of : List (List ℕ) → ℕ → ℕ → ℤ → ℕ
step_of table hysteresis earlier reading = highest (entry_stands table hysteresis earlier reading) 8

-- ---- what is refused of a table

-- f holds of an entry up to n
unfoldable pub some_of : (ℕ → Bool) → ℕ → Bool
some_of f zero = false
some_of f (suc n) = some_of f n || f (suc n)

-- temperatures fall along the table: an entry's is above the next one's
unfoldable pub falls_of : List (List ℕ) → Bool
falls_of table = some_of (λ (k : ℕ). ltb (temperature_of table (suc k)) (temperature_of table k)) 7

-- a temperature above 127 or a PWM value above 63
unfoldable pub out_of : List (List ℕ) → Bool
out_of table = some_of (λ (k : ℕ). ltb 127 (temperature_of table k) || ltb 63 (value_of table k)) 8
