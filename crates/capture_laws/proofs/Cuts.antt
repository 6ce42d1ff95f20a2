-- Demand 3. `cuts`: a capture cut anywhere, its parts fed in order, whatever buffers the calls are lent, a retry after each 7 and only
-- then, gives what the whole-capture definition gives. `whole_call`: so does one call with room for every answer. `determined`: two results
-- that meet feed's promise are equal, buffer included.
-- Assumes nothing.
use Prim.Native.Nat.{ℕ, zero, suc, ◌≤◌}
use mathlib.Core.Path.{◌≡◌, refl, ap, sym, ◌∙◌}
use mathlib.Core.List.{List, [], ◌∷◌, ◌++◌, append_assoc, append-nil}
use mathlib.Core.Bool.{true}
use lib.ListN.{length, take, drop}
use lib.Seq.{take-append_seam}
use Rattle.capture.specs.declared.Reader.{Reader}
use Rattle.capture.specs.declared.Fed.{Fed}
use Rattle.capture.specs.Reader.{Out, feed_of, call_of, end_of, place_of, ranges_of, fresh_of, Meets}
use Rattle.capture.specs.Whole.{whole_of}
use Rattle.capture_laws.specs.Schedule.{Buffer, seen, after, Part, Parts, joined, Bytes, SameAsWhole}
use Rattle.capture_laws.specs.Schedule.Part.{last, again}
use Rattle.capture_laws.specs.Schedule.Parts.{one, more}
use Rattle.capture_laws.proofs.Run.{run_of, run_append, run_ranges, feed_run, feed_resume, feed_ranges}
use Rattle.capture_laws.proofs.Rooms.{feed_fits}
use Rattle.capture_laws.proofs.Sections.{outcome, whole_run, whole_finishing}
use Rattle.pair.proofs.Heading.{zero_ranges}

-- what is seen of a call is its outcome
pub seen_is : (o : Out) {r : Fed} {entry exit : List ℕ} → Meets o r entry exit → seen r exit ≡ o
seen_is o {r} {entry} {exit} m =
    let a : take r.written exit ≡ o.answers = rw (m.written, m.buffer) (take-append_seam o.answers (drop (length o.answers) entry)) in
    λ i. record { code = m.code i; consumed = m.consumed i; answers = a i; reader = m.reader i }

pub bytes_left : (xs ys : List ℕ) → Bytes (xs ++ ys) → Bytes xs
bytes_left [] ys k = tt
bytes_left (b ∷ xs) ys k = (k.0, bytes_left xs ys k.1)

pub bytes_right : (xs ys : List ℕ) → Bytes (xs ++ ys) → Bytes ys
bytes_right [] ys k = k
bytes_right (b ∷ xs) ys k = bytes_right xs ys k.1

pub bytes_join : (xs ys : List ℕ) → Bytes xs → Bytes ys → Bytes (xs ++ ys)
bytes_join [] ys k l = l
bytes_join (b ∷ xs) ys k l = (k.0, bytes_join xs ys k.1 l)

pub bytes_drop : (n : ℕ) (xs : List ℕ) → Bytes xs → Bytes (drop n xs)
bytes_drop zero xs k = k
bytes_drop (suc n) [] k = tt
bytes_drop (suc n) (b ∷ xs) k = bytes_drop n xs k.1

-- parts joined
pub joined_append : (ps qs : List (List ℕ)) → joined (ps ++ qs) ≡ joined ps ++ joined qs
joined_append [] qs = refl
joined_append (p ∷ ps) qs = ap (λ (xs : List ℕ). p ++ xs) (joined_append ps qs) ∙ sym (append_assoc p (joined ps) (joined qs))

pub bytes_then : (ps : List (List ℕ)) (p : List ℕ) → Bytes (joined ps) → Bytes p → Bytes (joined (ps ++ (p ∷ [])))
bytes_then ps p k l = rw (joined_append ps (p ∷ []), append-nil p) (bytes_join (joined ps) p k l)

-- at a state in its ranges, what is seen is the call's outcome
called : (s : Reader) (xs : List ℕ) {r : Fed} {entry exit : List ℕ} → ranges_of s ≡ true → Meets (call_of s xs (length entry)) r entry exit
    → seen r exit ≡ feed_of s xs (length entry)
called s xs h m = seen_is _ (rw h at m)

pub part_run : {buffers : List Buffer} {s : Reader} {xs : List ℕ} {o : Out} → Part buffers s xs o → Bytes xs → ranges_of s ≡ true → o ≡ run_of s xs
part_run (last {s = s} {xs = xs} {entry = entry} {exit = exit} {r = r} m n) k h =
    let e = called s xs h m in
    e ∙ feed_run s xs (length entry) (λ q. n (ap (λ (x : Out). x.code) e ∙ q))
part_run (again {s = s} {xs = xs} {entry = entry} {exit = exit} {r = r} {o = o} m q l p) k h =
    let e = called s xs h m in
    let rest = drop r.consumed xs in
    let ranges : ranges_of r.reader ≡ true = rw (ap (λ (x : Out). x.reader) e) (feed_ranges s xs (length entry) k h) in
    let i : o ≡ run_of r.reader rest = part_run p (bytes_drop r.consumed xs k) ranges in
    ap (after (seen r exit)) i ∙ ap (λ (x : Out). after x (run_of x.reader (drop x.consumed xs))) e ∙ sym (feed_resume s xs (length entry))

parts_run : {buffers : List (List Buffer)} {s : Reader} {ps : List (List ℕ)} {o : Out} → Parts buffers s ps o → Bytes (joined ps)
    → ranges_of s ≡ true → o ≡ run_of s (joined ps)
parts_run (one {xs = xs} p) k h = rw append-nil (part_run p (bytes_left xs [] k) h)
parts_run (more {s = s} {xs = xs} {ps = ps} {o = o} p q) k h =
    let i = part_run p (bytes_left xs (joined ps) k) h in
    let j = parts_run q (bytes_right xs (joined ps) k) (rw i (run_ranges s xs (bytes_left xs (joined ps) k) h)) in
    ap (after o) j ∙ ap (λ (x : Out). after x (run_of x.reader (joined ps))) i ∙ sym (run_append s xs (joined ps))

pub fresh_ranges : ranges_of fresh_of ≡ true
unfolding ranges_of place_of
fresh_ranges = rw zero_ranges

-- the theorem
pub cuts : {buffers : List (List Buffer)} (ps : List (List ℕ)) (o : Out) → Bytes (joined ps) → Parts buffers fresh_of ps o
    → SameAsWhole o (joined ps)
cuts ps o k p =
    let q = parts_run p k fresh_ranges in
    let e = q ∙ whole_run (joined ps) in
    let i : ranges_of o.reader ≡ true = rw q (run_ranges fresh_of (joined ps) k fresh_ranges) in
    record {
      answers = ap (λ (x : Out). x.answers) e;
      consumed = ap (λ (x : Out). x.consumed) e;
      code = ap (λ (x : Out). x.code) e;
      reader = ap (λ (x : Out). x.reader) e;
      finishing = simp i (ap (λ (x : Out). end_of x.reader) e ∙ whole_finishing (joined ps));
      ranges = i;
    }

pub whole_call : (xs : List ℕ) (room : ℕ) → length (whole_of xs).answers ≤ room → call_of fresh_of xs room ≡ outcome (whole_of xs)
whole_call xs room fits =
    let run = whole_run xs in
    rw fresh_ranges (feed_fits fresh_of xs room (rw (ap (λ (o : Out). length o.answers) run) fits) ∙ run)

-- two results that meet one outcome are equal, and so are their buffers
pub determined : (o : Out) {r r' : Fed} {entry exit exit' : List ℕ} → Meets o r entry exit → Meets o r' entry exit'
    → (r ≡ r') × (exit ≡ exit')
determined o m n = (
  λ i. record {
    code = (m.code ∙ sym n.code) i;
    consumed = (m.consumed ∙ sym n.consumed) i;
    written = (m.written ∙ sym n.written) i;
    reader = (m.reader ∙ sym n.reader) i;
  },
  m.buffer ∙ sym n.buffer,
)
