-- The table of codes, both ways. `exactly`: a call gives a code exactly if its line of the table says so, whatever the state (of three
-- places for carried bytes, as every `Reader` has), the bytes and the room. `finish_exactly`: the same of asking to finish. `call_code` and
-- `finish_code`: whatever the state, the bytes and the room, the code is one of the table's.
-- Assumes nothing.
use Prim.Native.Nat.{ℕ, ◌-◌}
use mathlib.Core.Path.{◌≡◌, refl, ◌∙◌}
use mathlib.Core.Logic.{◌↔◌}
use mathlib.Core.List.{List, [], ◌∷◌, ◌++◌}
use mathlib.Core.Bool.{true, ◌&&◌}
use lib.Dec.{eqb}
use lib.ListN.{length}
use borrow.Author.Tests.{eqb-true, eqb-false, eq-eqb, ne_eqb}
use Rattle.laws.proofs.Choices.{cond_ind, by_test, and_left, and_right}
use Rattle.laws.proofs.Exactly.{by_lines}
use Rattle.registers.specs.Page.{among}
use Rattle.capture.specs.declared.Reader.{Reader}
use Rattle.capture.specs.Reader.{Out, held_test, header_done, ranges_of, turn_of, pair_of, feed_of, call_of, finish_of}
use Rattle.capture_laws.specs.Codes.{Header, header_ahead, carried_of, Free, Gives, Finishes, call_codes, finish_codes}
use Rattle.capture_laws.specs.Codes.Header.{bad_count, bad_variant, bad_address, unfinished, complete}
use Rattle.capture.proofs.InRange.{ranges}
use Rattle.capture_laws.proofs.Ways.{way, held_kept}
use Rattle.capture_laws.proofs.Held.{by_code}
use Rattle.capture.proofs.Outcomes.{feed_stop, feed_full, feed_on}
use Rattle.capture_laws.proofs.Run.{cases}
use Rattle.capture_laws.proofs.Judging.{Lines, refused, ended, by_line, has_line}
use Rattle.capture_laws.proofs.Leading.{Leads, leads}

-- ---- a call

-- a state that holds a lasting code keeps it
held_stays : (s : Reader) (xs : List ℕ) (room : ℕ) → (s.held ≡ 0 → ⊥) → (feed_of s xs room).code ≡ s.held
held_stays s [] room n = ended s room
held_stays s (b ∷ xs) room n = refused s {s' = s} b xs room (unfold turn_of in simp (ne_eqb s.held 0 n)) n

module _ (s : Reader) (xs : List ℕ) (room : ℕ) (three : length s.bytes ≡ 3) where
  -- what is ahead decides the code
  leads_to : {a : Header} → Free s → header_ahead s xs ≡ a → Leads (call_of s xs room).code s.done (carried_of s) room a
  leads_to f e = rw f.ranges (rw e at (leads s three f xs room))

  -- a line of the records gives its code, and is a line of the table
  in_lines : {devices n code : ℕ} {l : List ℕ} → Free s → header_ahead s xs ≡ complete devices n l
      → Lines devices n s.done (carried_of s ++ l) room code → (call_of s xs room).code ≡ code
  unfolding Leads
  in_lines {devices} {n} {code} {l} f e m =
      let t = leads_to f e in
      t.2 ∙ by_line n s.done t.0 (carried_of s ++ l) room code (rw t.1 m)

  of_line : {devices n code : ℕ} {l : List ℕ} → Free s → header_ahead s xs ≡ complete devices n l
      → Lines devices n s.done (carried_of s ++ l) room code → Gives s xs room code
  of_line f e (Lines.kind m u) = Gives.kind f e m u
  of_line f e (Lines.operand m r) = Gives.operand f e m r
  of_line f e (Lines.past_end p) = Gives.past_end f e p
  of_line f e (Lines.no_room m v h) = Gives.no_room f e m v h
  of_line f e (Lines.in_records d) = Gives.in_records f e d

  -- each line gives its code
  pub gives : (code : ℕ) → Gives s xs room code → (call_of s xs room).code ≡ code
  unfolding Leads
  gives _ (Gives.out_of_ranges o) = simp o
  gives _ (Gives.held h n) = simp h (held_stays s xs room n)
  gives _ (Gives.device_count f e) = leads_to f e
  gives _ (Gives.variant f e) = leads_to f e
  gives _ (Gives.address f e) = leads_to f e
  gives _ (Gives.kind f e m u) = in_lines f e (Lines.kind m u)
  gives _ (Gives.operand f e m r) = in_lines f e (Lines.operand m r)
  gives _ (Gives.past_end f e p) = in_lines f e (Lines.past_end p)
  gives _ (Gives.no_room f e m v h) = in_lines f e (Lines.no_room m v h)
  gives _ (Gives.in_header_lem f e) = leads_to f e
  gives _ (Gives.in_records f e d) = in_lines f e (Lines.in_records d)

  -- the code given has a line if any code has one
  told : {code : ℕ} → Gives s xs room code → Gives s xs room (call_of s xs room).code
  told {code} g = rw (gives code g) g

  by_ahead : Free s → (a : Header) → header_ahead s xs ≡ a → Gives s xs room (call_of s xs room).code
  unfolding Leads
  by_ahead f bad_count e = told (Gives.device_count f e)
  by_ahead f bad_variant e = told (Gives.variant f e)
  by_ahead f bad_address e = told (Gives.address f e)
  by_ahead f unfinished e = told (Gives.in_header_lem f e)
  by_ahead f (complete devices n l) e =
      let t = leads_to f e in
      told (of_line f e (rw t.1 at (has_line n s.done t.0 (carried_of s ++ l) room)))

  pub given : Gives s xs room (call_of s xs room).code
  given =
      by_test (ranges_of s)
      (λ h. by_test (eqb s.held 0)
      (λ z. by_ahead (record { ranges = h; none = eqb-true s.held 0 z }) (header_ahead s xs) refl)
      (λ n. told (Gives.held h (eqb-false s.held 0 n))))
      (λ o. told (Gives.out_of_ranges o))

  pub exactly : (code : ℕ) → ((call_of s xs room).code ≡ code) ↔ Gives s xs room code
  exactly = by_lines (Gives s xs room) _ given gives

-- ---- asked to finish

module _ (s : Reader) where
  pub finishes : (code : ℕ) → Finishes s code → finish_of s ≡ code
  finishes _ (Finishes.out_of_ranges o) = simp o
  finishes _ (Finishes.held h n) = simp (h, ne_eqb s.held 0 n)
  finishes _ (Finishes.before_end f n) =
      let h = header_done s in
      let d = eqb s.done s.count in
      let unmet : (h && d) ≡ true → ⊥ = λ e. n (eqb-true _ _ (and_left h d e)) (eqb-true _ _ (and_right h d e)) in
      simp (f.ranges, f.none) (cond_ind (λ (code : ℕ). code ≡ 6) (h && d) (λ e. absurd (unmet e)) (λ _. refl))
  finishes _ (Finishes.at_end f h d) = simp (f.ranges, f.none, h, d, eq-eqb)

  -- the same of finishing
  told_end : {code : ℕ} → Finishes s code → Finishes s (finish_of s)
  told_end {code} g = rw (finishes code g) g

  pub finished_as : Finishes s (finish_of s)
  finished_as =
      by_test (ranges_of s)
      (λ h. by_test (eqb s.held 0)
      (λ z. free (record { ranges = h; none = eqb-true s.held 0 z }))
      (λ n. told_end (Finishes.held h (eqb-false s.held 0 n))))
      (λ o. told_end (Finishes.out_of_ranges o))
    where
      free : Free s → Finishes s (finish_of s)
      free f =
          by_test (header_done s)
          (λ h. by_test (eqb s.done s.count)
          (λ d. told_end (Finishes.at_end f (eqb-true _ _ h) (eqb-true _ _ d)))
          (λ d. told_end (Finishes.before_end f (λ _. eqb-false _ _ d))))
          (λ h. told_end (Finishes.before_end f (λ e _. eqb-false _ _ h e)))

  pub finish_exactly : (code : ℕ) → (finish_of s ≡ code) ↔ Finishes s code
  finish_exactly = by_lines (Finishes s) (finish_of s) finished_as finishes

-- ---- no other codes

call_listed : (code : ℕ) → held_test code ≡ true → among code call_codes ≡ true
call_listed = by_code (λ (code : ℕ). among code call_codes ≡ true) refl refl refl refl refl refl refl

finish_listed : (code : ℕ) → held_test code ≡ true → among code finish_codes ≡ true
finish_listed = by_code (λ (code : ℕ). among code finish_codes ≡ true) refl refl refl refl refl refl refl

feed_code : (s : Reader) (xs : List ℕ) (room : ℕ) → held_test s.held ≡ true → among (feed_of s xs room).code call_codes ≡ true
unfolding feed_of
feed_code s [] room h = call_listed s.held h
feed_code s (b ∷ xs) room h =
    let t = turn_of s b in
    let can = held_kept (way s b) h in
    cases _ s b room
    (λ n. rw (feed_stop s b xs room n) (call_listed t.reader.held can))
    (λ z l. rw (feed_on s b xs room z l) (feed_code t.reader xs (room - length (pair_of t)) can))
    (λ z l. rw (feed_full s b xs room z l) refl)

pub call_code : (s : Reader) (xs : List ℕ) (room : ℕ) → among (call_of s xs room).code call_codes ≡ true
call_code s xs room =
    cond_ind (λ (o : Out). among o.code call_codes ≡ true) (ranges_of s) (λ h. feed_code s xs room (ranges s h).held) (λ _. refl)

listed : {s : Reader} {code : ℕ} → Finishes s code → among code finish_codes ≡ true
listed (Finishes.out_of_ranges o) = refl
listed {s} (Finishes.held h n) = finish_listed s.held (ranges s h).held
listed (Finishes.before_end f n) = refl
listed (Finishes.at_end f h d) = refl

pub finish_code : (s : Reader) → among (finish_of s) finish_codes ≡ true
finish_code s = listed (finished_as s)
