-- What is laid of a part, from what the calls of the listing promise, and of the part of a buffer that a read filled.
-- Assumes nothing.
use Rattle.std.proofs.Common.{◌≡◌, ℕ, zero, suc, ◌≤◌, Bool, true, false, not, ◌&&◌, ◌==◌, nat_lt, List, length, min, take, ℤ, pos, negsuc}
use Rattle.std.proofs.Common.{refl, sym, ap, ◌∙◌, subst, arith}
use Rattle.std.specs.declared.ops.ControlFlow.TheVariants.{Continue, Break}
use Rattle.std.specs.Prelude.{unsigned_abs, FitsSigned}
use Rattle.std.specs.Int.{w64, FitsUnsignedBits}
use borrow.Author.Tests.{lt-ltb, ne_eqb}
use Rattle.laws.proofs.Buffers.{take_min}
use Rattle.capture.specs.declared.Reader.{Reader}
use Rattle.capture.specs.declared.Fed.{Fed}
use Rattle.capture.specs.Reader.{FedWith}
use Rattle.capture_laws.specs.Schedule.{Bytes}
use Rattle.lines.specs.Lines.{next_of, fitting_lines_of, LinesLaid}
use Rattle.listing_loop.specs.declared.steps.Part.{Part}
use Rattle.listing_loop.specs.List.{whole}
use Rattle.listing_loop.specs.Loop.{more_of, part_of, part_from, not_read_of, PartLaid, ReadLaid}
use Rattle.listing_loop.specs.Loop.ReadLaid.{no_part, a_part}
use Rattle.lines_laws.specs.Turns.{read_most, answer_room, text_room}
use Rattle.lines_laws.proofs.Numbered.{laid_front}

pub made_part : (s : Reader) (part : List ℕ) {r : Fed} {lent answers blank page : List ℕ} {size first : ℕ} → FedWith s part r lent answers
    → first ≡ next_of s.done → LinesLaid first (take r.written answers) size blank page → Bytes part
    → length part ≤ read_most → answer_room ≤ length lent → text_room ≤ length blank → {p : Part} → p ≡ part_of part r size → PartLaid s part p blank page
made_part s part {r} {lent} {answers} {blank} {page} {size} fed next listed bytes read room wide told =
    let numbered = rw next at listed in
    rw told
    (record {
      r = r;
      text = fitting_lines_of (length blank) (next_of s.done) (take r.written answers);
      bytes = bytes;
      turn =
          record {
            lent = lent;
            answers = answers;
            blank = blank;
            page = page;
            size = size;
            read = read;
            room = room;
            fed = fed;
            wide = wide;
            listed = numbered;
            written = sym (laid_front numbered);
          };
      laid = numbered;
      told = ap (part_of part r) numbered.told;
    })

-- another turn may follow a part that is not empty, at code 0
not_zero : (n : ℕ) → not (n == 0) ≡ nat_lt 0 n
not_zero zero = refl
not_zero (suc n) = ap not (ne_eqb (suc n) 0 (λ e. omega arith)) ∙ sym (lt-ltb 0 (suc n) (omega arith))

more_is : (part : List ℕ) (r : Fed) {empty more : Bool} → empty ≡ (length part == 0) → (not empty && r.code == 0) ≡ more → more_of part r ≡ more
more_is part r e h = ap (λ (b : Bool). b && r.code == 0) (sym (not_zero (length part)) ∙ ap not (sym e)) ∙ h

pub made_more : (part : List ℕ) (r : Fed) (size : ℕ) {empty : Bool} → empty ≡ (length part == 0) → (not empty && r.code == 0) ≡ true
    → part_from (record { next = Continue r.reader; size = size }) ≡ part_of part r size
made_more part r size e h = λ i. record { reader = r.reader; failure = whole; more = sym (more_is part r e h) i; size = size }

pub made_last : (part : List ℕ) (r : Fed) (size : ℕ) {empty : Bool} → empty ≡ (length part == 0) → (not empty && r.code == 0) ≡ false
    → part_from (record { next = Break r.reader; size = size }) ≡ part_of part r size
made_last part r size e h = λ i. record { reader = r.reader; failure = whole; more = sym (more_is part r e h) i; size = size }

-- ---- what a read answered

pub made_failed : (s : Reader) (got : ℤ) (buffer text : List ℕ) → FitsSigned w64 got → (FitsUnsignedBits 64 got → ⊥)
    → ReadLaid s got buffer (not_read_of s) text text
made_failed s (pos n) buffer text fits h = absurd (h (omega (arith, fits)))
made_failed s (negsuc n) buffer text fits h = no_part

pub made_read : (s : Reader) (got : ℤ) (buffer : List ℕ) {p : Part} {entry exit : List ℕ} {count least : ℕ}
    → FitsUnsignedBits 64 got × (count ≡ unsigned_abs got) → least ≡ min count (length buffer) → PartLaid s (take least buffer) p entry exit → ReadLaid s got buffer p entry exit
made_read s (pos n) buffer {p} {entry} {exit} h e t =
    a_part (subst (λ (part : List ℕ). PartLaid s part p entry exit) (ap (λ (k : ℕ). take k buffer) (rw h.1 at e) ∙ take_min n buffer) t)
made_read s (negsuc n) buffer h e t = absurd h.0
