-- The listing's turns over a capture, and what they write. A call is known by what it promises, and by nothing else.
-- Assumes nothing.
use Rattle.std.specs.Prelude.{ℕ, ◌≤◌, ◌<◌, ◌≡◌, List, [], ◌∷◌, ◌++◌, length, take}
use Rattle.capture.specs.declared.Reader.{Reader}
use Rattle.capture.specs.declared.Fed.{Fed}
use Rattle.capture.specs.Reader.{fresh_of, finish_of, FedWith}
use Rattle.capture_laws.specs.Schedule.{joined}
use Rattle.lines.specs.Lines.{end_line_of, next_of, Lined, LinesLaid}

-- ---- the listing's buffers

-- bytes read at once, at most
abbrev pub read_most : ℕ
read_most = 65536

-- these, and three carried ones, hold at most 16,384 records, of two answer bytes and a line of at most 17 bytes each
abbrev pub answer_room : ℕ
answer_room = 32768

abbrev pub text_room : ℕ
text_room = 278528

abbrev pub end_room : ℕ
end_room = 17

-- ---- turns

-- one turn: a part is read and fed, and the lines of its answers are written, numbered on from the records done before it; `lent` and
-- `blank` are the listing's buffers before the two calls, `answers` and `page` after them
pub record Turn (s : Reader) (part : List ℕ) (r : Fed) (text : List ℕ) : Type 0 where
  pub lent : List ℕ
  pub answers : List ℕ
  pub blank : List ℕ
  pub page : List ℕ
  pub size : ℕ
  pub read : length part ≤ read_most
  pub room : answer_room ≤ length lent
  pub fed : FedWith s part r lent answers
  pub wide : text_room ≤ length blank
  pub listed : LinesLaid (next_of s.done) (take r.written answers) size blank page
  pub written : text ≡ take size page

-- turns in order, each from the state that the one before it left, while bytes are read and the code is 0. The last one is at the end of
-- the input, where no byte is read, or it has a code other than 0
pub data Turns : Reader → List (List ℕ) → List ℕ → Reader → Type 0 where
  at_end : {s : Reader} {text : List ℕ} {r : Fed} → Turn s [] r text → Turns s ([] ∷ []) text r.reader
  refused : {s : Reader} {part text : List ℕ} {r : Fed} → Turn s part r text → (r.code ≡ 0 → ⊥) → Turns s (part ∷ []) text r.reader
  goes_on : {s last : Reader} {part text texts : List ℕ} {parts : List (List ℕ)} {r : Fed} → Turn s part r text → 0 < length part → r.code ≡ 0
      → Turns r.reader parts texts last → Turns s (part ∷ parts) (text ++ texts) last

-- what may be unread behind the state that turns leave: nothing, unless a byte was refused
abbrev pub Unread : Reader → List ℕ → Type 0
Unread last rest = last.held ≡ 0 → rest ≡ []

-- ---- the output

-- the end line of a state
pub record End (last : Reader) (line : List ℕ) : Type 0 where
  pub blank : List ℕ
  pub page : List ℕ
  pub size : ℕ
  pub wide : end_room ≤ length blank
  pub lined : Lined (end_line_of last.done (finish_of last)) size blank page
  pub written : line ≡ take size page

-- the texts of the turns from a fresh state, in order, and the end line of the state that they leave
pub record Output (parts : List (List ℕ)) (output : List ℕ) (last : Reader) : Type 0 where
  pub text : List ℕ
  pub line : List ℕ
  pub turns : Turns fresh_of parts text last
  pub end : End last line
  pub written : output ≡ text ++ line

-- ---- that there is one

-- every part can come of one read: a byte or more, and at most as many as are read at once
abbrev pub Read : List (List ℕ) → Type 0
Read [] = Unit {0}
Read (part ∷ parts) = (0 < length part) × (length part ≤ read_most) × Read parts

-- an output over an input that is cut into these parts, with the empty one that is read at its end behind them: parts in order are used up,
-- and those behind them are unread
pub record Ends (parts : List (List ℕ)) : Type 0 where
  pub used : List (List ℕ)
  pub unread : List (List ℕ)
  pub output : List ℕ
  pub last : Reader
  pub same : used ++ unread ≡ parts ++ ([] ∷ [])
  pub written : Output used output last
  pub behind : Unread last (joined unread)
