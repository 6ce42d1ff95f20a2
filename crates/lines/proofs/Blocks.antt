-- The lines of a call's answers, laid one behind another: what is known between two of them, `Going`, and the ways on and out.
-- Assumes nothing.
use Rattle.std.proofs.Common.{◌≡◌, ℕ, zero, suc, ◌+◌, ◌-◌, ◌*◌, ◌/◌, ◌<◌, ◌≤◌, Bool, true, false, cond, leb}
use Rattle.std.proofs.Common.{List, [], ◌∷◌, ◌++◌, length, get_or, take, drop, sym, refl, ap, ◌∙◌}
use Rattle.std.proofs.Common.{append_assoc, append-nil, le_refl, arith, length-append, length-drop, take-append-drop, length-take-le, drop-drop}
use Rattle.std.proofs.Common.{take_at, drop_at, le-leb, leb-false, leb-true}
use Rattle.std.specs.Simd.{first_chunks}
use native.Mathlib.Nat.{sub-zero}
use borrow.Rule.Slice.PartMut.{put_mid, same_len_mid, mid_len}
use borrow.Author.Tests.{lt-leb}
use Rattle.laws.proofs.Buffers.{laid}
use Rattle.laws.proofs.Choices.{clash, by_test}
use Rattle.lines.specs.Lines.{line_of, next_of, fitting_of, fitting_lines_of, Laid, Lined}
use Rattle.lines.proofs.Layers.{fitting_short, same_room}

-- ---- the definition, a line at a time

module _ (room n a b : ℕ) (answers : List ℕ) where
  pub lines_on : length (line_of n a b) ≤ room
      → fitting_lines_of room n (a ∷ b ∷ answers) ≡ line_of n a b ++ fitting_lines_of (room - length (line_of n a b)) (next_of n) answers
  unfolding fitting_lines_of
  lines_on h = simp (le-leb _ _ h)

  pub lines_full : room < length (line_of n a b) → fitting_lines_of room n (a ∷ b ∷ answers) ≡ []
  unfolding fitting_lines_of
  lines_full h = simp (lt-leb _ _ h)

pub lines_end : (room n : ℕ) (answers : List ℕ) → length answers < 2 → fitting_lines_of room n answers ≡ []
unfolding fitting_lines_of
lines_end room n [] h = refl
lines_end room n (a ∷ []) h = refl
lines_end room n (a ∷ b ∷ answers) h = absurd (omega arith)

pub lines_short : (room n : ℕ) (answers : List ℕ) → length (fitting_lines_of room n answers) ≤ room
lines_short room n [] = rw (lines_end room n [] (omega arith)) (omega arith)
lines_short room n (a ∷ []) = rw (lines_end room n (a ∷ []) (omega arith)) (omega arith)
lines_short room n (a ∷ b ∷ answers) =
    let line : List ℕ = line_of n a b in
    by_test (leb (length line) room)
    (λ h.
    let k : length line ≤ room = leb-true (length line) room h in
    let r = lines_short (room - length line) (next_of n) answers in
    rw (lines_on room n a b answers k, length-append line (fitting_lines_of (room - length line) (next_of n) answers)) (omega arith))
    (λ h. rw (lines_full room n a b answers (leb-false (length line) room h)) (omega arith))

-- ---- between two lines

-- of a text, so many bytes are laid and `todo` is to come
pub record Going (text entry room : List ℕ) (size : ℕ) (todo : List ℕ) : Type 0 where
  pub within : size ≤ length entry
  pub long : length room ≡ length entry
  pub rest : drop size room ≡ drop size entry
  pub same : text ≡ take size room ++ todo

pub start : (n : ℕ) (answers entry : List ℕ) → Going (fitting_lines_of (length entry) n answers) entry entry 0 (fitting_lines_of (length entry - 0) n answers)
start n answers entry = record { within = omega arith; long = refl; rest = refl; same = rw sub-zero }

-- nothing is to come
pub finished : {text entry room : List ℕ} {size : ℕ} → Going text entry room size [] → Laid text size entry room
finished {text} {entry} {room} {size} g =
    let e : text ≡ take size room = g.same ∙ append-nil (take size room) in
    let l : length (take size room) ≡ size = let w = g.within in let k = g.long in length-take-le size room (omega arith) in
    record {
      told = sym (ap length e ∙ l);
      buffer = sym (take-append-drop size room) ∙ rw (e, l, g.rest);
    }

-- what comes first is laid behind what is there
pub laid_on : {text entry room last next todo : List ℕ} {size count : ℕ} → Going text entry room size (next ++ todo)
    → Laid next count (take (length room - size) (drop size room)) last → length next ≤ length room - size
    → Going text entry (put_mid size (length room - size) room last) (size + count) todo
laid_on {text} {entry} {room} {last} {next} {todo} {size} {count} g p h =
    let w = g.within in
    let k = g.long in
    let t = p.told in
    let more : ℕ = size + count in
    let front : List ℕ = take size room ++ next in
    let back : List ℕ = drop (length next) (drop size room) in
    let e : put_mid size (length room - size) room last ≡ front ++ back
    = laid room last next size p.buffer ∙ sym (append_assoc (take size room) next back) in
    let l : length front ≡ more = length-append (take size room) next ∙ rw (length-take-le size room (omega arith), t) refl in
    let kept : drop (length next) (drop size entry) ≡ drop (size + length next) entry = drop-drop (length next) size entry in
    let shown = ap (take more) e ∙ take_at front back more l in
    record {
      within = omega arith;
      long = same_len_mid size (length room - size) room last (same_room p (rw (mid_len size (length room) room (le_refl (length room))) h)) ∙ k;
      rest = ap (drop more) e ∙ drop_at front back more l ∙ rw (g.rest, t) kept;
      same = g.same ∙ sym (append_assoc (take size room) next todo) ∙ ap (λ (x : List ℕ). x ++ todo) (sym shown);
    }

-- ---- a line more

-- answer 0 or 1 of a pair
abbrev answer_at : List (List ℕ) → ℕ → ℕ → ℕ
answer_at pairs i k = get_or (get_or pairs i []) k 0

-- the answers from a pair on: its two, and those behind it
chunk_first : (m : ℕ) (answers : List ℕ) (i : ℕ) → m * 2 ≤ length answers → i < m
    → drop (i * 2) answers ≡ answer_at (first_chunks 2 m answers) i 0 ∷ answer_at (first_chunks 2 m answers) i 1 ∷ drop ((i + 1) * 2) answers
chunk_first zero answers i h k = absurd (omega arith)
chunk_first (suc m) [] i h k = absurd (omega arith)
chunk_first (suc m) (a ∷ []) i h k = absurd (omega arith)
chunk_first (suc m) (a ∷ b ∷ rest) zero h k = refl
chunk_first (suc m) (a ∷ b ∷ rest) (suc i) h k =
    let here : suc i * 2 ≡ suc (suc (i * 2)) = omega arith in
    let next : (suc i + 1) * 2 ≡ suc (suc ((i + 1) * 2)) = omega arith in
    rw (here, next) (chunk_first m rest i (omega arith) (omega arith))

module _ {text entry room last : List ℕ} {size count : ℕ} (answers : List ℕ) {pairs : List (List ℕ)} (n i : ℕ)
    (chunks : pairs ≡ first_chunks 2 (length answers / 2) answers)
    (here : i < length answers / 2)
    (g : Going text entry room size (fitting_lines_of (length entry - size) n (drop (i * 2) answers)))
    (p : Lined (line_of n (answer_at pairs i 0) (answer_at pairs i 1)) count (take (length room - size) (drop size room)) last) where
  abbrev line : List ℕ
  line = line_of n (answer_at pairs i 0) (answer_at pairs i 1)

  pair_first : drop (i * 2) answers ≡ answer_at pairs i 0 ∷ answer_at pairs i 1 ∷ drop ((i + 1) * 2) answers
  pair_first = rw chunks (chunk_first (length answers / 2) answers i (omega arith) here)

  room_left : length (take (length room - size) (drop size room)) ≡ length entry - size
  room_left = mid_len size (length room) room (le_refl (length room)) ∙ ap (λ (k : ℕ). k - size) g.long

  laid_next : (todo : List ℕ) → fitting_lines_of (length entry - size) n (drop (i * 2) answers) ≡ fitting_of line (length entry - size) ++ todo
      → Going text entry (put_mid size (length room - size) room last) (size + count) todo
  laid_next todo e =
      laid_on (rw e at g) (rw room_left at p) (let k = fitting_short line (length entry - size) in let l = g.long in omega arith)

  pub line_more : (length (take (length room - size) (drop size room)) < length line → true ≡ false)
      → Going text entry (put_mid size (length room - size) room last) (size + count)
      (fitting_lines_of (length entry - (size + count)) (next_of n) (drop ((i + 1) * 2) answers))
  line_more f =
      let h : length line ≤ length entry - size =
      by_test (leb (length line) (length entry - size)) (λ t. leb-true _ _ t)
      (λ t. clash (sym (f (rw room_left (leb-false (length line) (length entry - size) t))))) in
      let fitting : fitting_of line (length entry - size) ≡ line = ap (λ (t : Bool). cond t line []) (le-leb (length line) (length entry - size) h) in
      let told : count ≡ length line = p.told ∙ ap (λ (k : ℕ). length (fitting_of line k)) room_left ∙ ap length fitting in
      let left : length entry - size - length line ≡ length entry - (size + count) = omega arith in
      laid_next (fitting_lines_of (length entry - (size + count)) (next_of n) (drop ((i + 1) * 2) answers))
      (ap (fitting_lines_of (length entry - size) n) (pair_first)
      ∙ lines_on (length entry - size) n (answer_at pairs i 0) (answer_at pairs i 1) (drop ((i + 1) * 2) answers) h
      ∙ rw (fitting, left) refl)

  pub no_more : length (take (length room - size) (drop size room)) < length line → Laid text size entry (put_mid size (length room - size) room last)
  no_more f =
      let h : length entry - size < length line = omega (arith, room_left) in
      let fitting : fitting_of line (length entry - size) ≡ [] = ap (λ (t : Bool). cond t line []) (lt-leb (length line) (length entry - size) h) in
      let none : count ≡ 0 = p.told ∙ ap (λ (k : ℕ). length (fitting_of line k)) room_left ∙ ap length fitting in
      let same : size + count ≡ size = omega arith in
      let g : Going text entry (put_mid size (length room - size) room last) (size + count) [] = laid_next []
      (ap (fitting_lines_of (length entry - size) n) (pair_first)
      ∙ lines_full (length entry - size) n (answer_at pairs i 0) (answer_at pairs i 1) (drop ((i + 1) * 2) answers) h
      ∙ rw fitting refl) in
      finished (rw same at g)

-- no pair is left
pub no_pair : {text entry room : List ℕ} {size : ℕ} (answers : List ℕ) (n i : ℕ) → length answers / 2 ≤ i
    → Going text entry room size (fitting_lines_of (length entry - size) n (drop (i * 2) answers)) → Laid text size entry room
no_pair {entry = entry} {size = size} answers n i h g =
    finished (rw (lines_end (length entry - size) n (drop (i * 2) answers) (simp length-drop (omega arith))) at g)
