use Rattle.std.proofs.Common.{◌≡◌, List, ℕ, [], ◌++◌, take, drop, length}
use Rattle.std.proofs.Common.{sym, ap, ◌∙◌, append_assoc, take-append-drop, append-nil, arith, length-drop, eqb-true}
use Rattle.std.proofs.lemmas.List.{take_rest, nil_from_length}
use Rattle.std.proofs.KnownBytes.{Appends-trans}
use Rattle.listing_loop.proofs.put.Goals as goal

pub loop-rest-smaller : goal.loop-rest-smaller
loop-rest-smaller g c =
    let rest = c.loop-rest.rest.now in
    let count = c.in-Ok.count in
    rw (take_rest rest count, length-drop count rest) (omega (arith, c.if-count-gt0.true, c.in-Ok.ensures.bound))

pub loop-rest-preserved : goal.loop-rest-preserved
loop-rest-preserved g c =
    let front = c.loop-rest.invariant.front in
    let rest = c.loop-rest.rest.now in
    let count = c.in-Ok.count in
    rw (take_rest rest count)
    (record {
      front = front ++ take count rest;
      all = append_assoc front (take count rest) (drop count rest)
          ∙ ap (λ (xs : List ℕ). front ++ xs) (take-append-drop count rest) ∙ c.loop-rest.invariant.all;
      bytes = Appends-trans _ _ _ _ _ c.loop-rest.invariant.bytes c.in-Ok.ensures.bytes;
    })

pub returns-clause-ok : goal.returns-clause-ok
returns-clause-ok g c =
    let rest = c.loop-rest.rest.now in
    let none : rest ≡ [] = nil_from_length rest (eqb-true (length rest) 0 (sym c.is_empty.ensures ∙ c.loop-rest-test.false)) in
    rw (sym c.loop-rest.invariant.all, none, append-nil c.loop-rest.invariant.front) c.loop-rest.invariant.bytes
