-- Listing in full, from a reader to a writer: what the call tells, and of which turns. That `parts` are the bytes that the call
-- was handed, and `output` those that it handed on, is in no promise.
-- Assumes nothing.
use Rattle.std.specs.Prelude.{◌≡◌, ℕ, List, Result, Ok, Err}
use Rattle.capture.specs.declared.Reader.{Reader}
use Rattle.capture.specs.Reader.{finish_of}
use Rattle.capture.specs.Whole.{whole_of}
use Rattle.capture_laws.specs.Schedule.{joined, Bytes}
use Rattle.capture_laws.specs.Places.{consumed_of}
use Rattle.lines_laws.specs.Turns.{Output}
use Rattle.listing_loop.specs.declared.Failure.{Failure}
use Rattle.listing_loop.specs.declared.Failure.TheVariants.{NotRead, NotWritten}
use Rattle.listing_loop.specs.declared.Totals.{Totals}
use Rattle.listing_loop.specs.declared.steps.Listed.{Listed}

-- ---- the result

-- how a listing ended: it is whole, or why it is not
abbrev pub whole : ℕ
whole = 0

abbrev pub not_read_failure : ℕ
not_read_failure = 1

abbrev pub not_written_failure : ℕ
not_written_failure = 2

abbrev pub failure_of : Failure → ℕ
failure_of NotRead = not_read_failure
failure_of NotWritten = not_written_failure

-- a listing that failed tells why, and nothing else
abbrev pub failed_of : ℕ → Listed
failed_of failure = record { consumed = 0; done = 0; code = 0; failure = failure }

-- a whole one tells of the reader that its turns leave
abbrev pub told_of : Reader → ℕ → Listed
told_of last code = record { consumed = consumed_of last; done = last.done; code = code; failure = whole }

abbrev pub totals_of : Reader → ℕ → Totals
totals_of last code = record { consumed = consumed_of last; done = last.done; code = code }

-- a result as C gets it
abbrev pub listed_from : Result Totals Failure → Listed
listed_from (Ok t) = record { consumed = t.consumed; done = t.done; code = t.code; failure = whole }
listed_from (Err f) = failed_of (failure_of f)

-- the same of a capture, by the whole-capture definition
abbrev pub listed_of : List ℕ → Listed
listed_of capture =
    record { consumed = (whole_of capture).consumed; done = (whole_of capture).reader.done; code = (whole_of capture).finishing; failure = whole }

-- ---- the promise

-- a whole listing: there are parts, turns in order took them, what these and the end line wrote is the output, and the result tells of the
-- reader that they leave
pub record Listing (r : Listed) : Type 0 where
  pub parts : List (List ℕ)
  pub output : List ℕ
  pub last : Reader
  pub bytes : Bytes (joined parts)
  pub written : Output parts output last
  pub told : r ≡ told_of last (finish_of last)

-- what the call promises of its result
pub data Lists : Listed → Type 0 where
  in_full : {r : Listed} → Listing r → Lists r
  not_read : Lists (failed_of not_read_failure)
  not_written : Lists (failed_of not_written_failure)
