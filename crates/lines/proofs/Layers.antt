-- Bytes laid behind one another at the front of a buffer, and that a line's promise has one answer: `one_line`, `one_option`.
-- Assumes nothing.
use Rattle.std.proofs.Common.{◌≡◌, ℕ, ◌+◌, ◌-◌, ◌<◌, ◌≤◌, Bool, cond, leb, List, [], ◌++◌, length, drop, sym, refl, ap, ◌∙◌, subst, append_assoc}
use Rattle.std.proofs.Common.{arith, length-append, length-drop, drop-drop, le-leb, leb-true}
use Rattle.std.specs.Prelude.{Option, Some, None, unwrap_or, IsNone, ◌↔◌}
use Rattle.laws.proofs.Choices.{clash, cond_ind}
use Rattle.lines.specs.Lines.{fitting_of, Laid, Lined}

-- ---- a line that fits

written : (line entry : List ℕ) {exit : List ℕ} → length line ≤ length entry → exit ≡ line ++ drop (length line) entry → Lined line (length line) entry exit
written line entry h e =
    let fits : fitting_of line (length entry) ≡ line = ap (λ (b : Bool). cond b line []) (le-leb (length line) (length entry) h) in
    record { told = sym (ap length fits); buffer = e ∙ sym (ap (λ (x : List ℕ). x ++ drop (length x) entry) fits) }

-- a word, a number and a tail, one behind another, in front of what was behind them
pub all_three : (word number tail entry : List ℕ) {digits first second third behind behind' behind'' : List ℕ}
    → digits ≡ number → first ≡ word → second ≡ digits → third ≡ tail
    → behind ≡ drop (length word) entry → behind' ≡ drop (length digits) behind → behind'' ≡ drop (length tail) behind'
    → length behind + length word ≡ length entry → length behind' + length digits ≡ length behind → length behind'' + length tail ≡ length behind'
    → Lined (word ++ (number ++ tail)) (length word + length digits + length tail) entry (first ++ (second ++ (third ++ behind'')))
all_three word number tail entry {digits} {first} {second} {third} {behind} {behind'} {behind''} e a b c f g h i j k =
    let line : List ℕ = word ++ (number ++ tail) in
    let long : length line ≡ length word + length digits + length tail
    = length-append word (number ++ tail) ∙ rw (length-append number tail, e) (omega arith) in
    let rest : behind'' ≡ drop (length line) entry
    = rw (h, g, f, drop-drop (length digits) (length word) entry, drop-drop (length tail) (length word + length digits) entry, long) refl in
    let same : first ++ (second ++ (third ++ behind'')) ≡ line ++ drop (length line) entry
    = rw (a, b, c, e, append_assoc word (number ++ tail), append_assoc number tail, rest) refl in
    subst (λ (count : ℕ). Lined line count entry (first ++ (second ++ (third ++ behind'')))) long (written line entry (omega arith) same)

-- two results that meet the promise are equal, and so are their buffers
pub one_line : {text entry exit exit' : List ℕ} {m n : ℕ} → Laid text m entry exit → Laid text n entry exit' → (m ≡ n) × (exit ≡ exit')
one_line p q = (p.told ∙ sym q.told, p.buffer ∙ sym q.buffer)

-- and so for a line that is there or has no room
pub one_option : (line entry : List ℕ) {exit exit' : List ℕ} (r s : Option ℕ)
    → Lined line (unwrap_or r 0) entry exit → IsNone r ↔ (length entry < length line)
    → Lined line (unwrap_or s 0) entry exit' → IsNone s ↔ (length entry < length line)
    → (r ≡ s) × (exit ≡ exit')
one_option line entry (Some m) (Some n) p full q full' = (ap Some (one_line p q).0, (one_line p q).1)
one_option line entry (Some m) None p full q full' = clash (sym (full.1 (full'.0 refl)))
one_option line entry None (Some n) p full q full' = clash (sym (full'.1 (full.0 refl)))
one_option line entry None None p full q full' = (refl, (one_line p q).1)

-- ---- room

pub fitting_short : (line : List ℕ) (room : ℕ) → length (fitting_of line room) ≤ room
fitting_short line room =
    cond_ind (λ (l : List ℕ). length l ≤ room) (leb (length line) room) (λ h. leb-true (length line) room h) (λ _. omega arith)

-- a text that fits leaves the buffer as long as it was
pub same_room : {text entry exit : List ℕ} {count : ℕ} → Laid text count entry exit → length text ≤ length entry → length exit ≡ length entry
same_room {text} {entry} {exit} p h =
    let a : length exit ≡ length text + length (drop (length text) entry) = ap length p.buffer ∙ length-append text (drop (length text) entry) in
    let b : length (drop (length text) entry) ≡ length entry - length text = length-drop (length text) entry in
    omega arith

-- what stands in front of a buffer is within it
pub in_front : (text rest : List ℕ) {exit : List ℕ} {count : ℕ} → count ≡ length text → exit ≡ text ++ rest → count ≤ length exit
in_front text rest t e = let a = ap length e ∙ length-append text rest in omega arith

pub inside : {text entry exit : List ℕ} {count : ℕ} → Laid text count entry exit → count ≤ length exit
inside {text} {entry} p = in_front text (drop (length text) entry) p.told p.buffer
