use Prim.Native.Nat.{◌+◌}
use mathlib.Core.Path.{◌≡◌, refl, sym, ◌∙◌}
use borrow.Author.Rules.{rules}
use mir.Syntax.{w16}
use mir.Val.{SFits}
use mir.Facts.{to_z-of_z}
use Rattle.std.specs.Prelude.{Result, Ok, Err, MatchResult}
use Rattle.std.specs.Result.{IsErrAnd}
use Rattle.std.proofs.lemmas.Result.{err_from_is_err_and}
use Rattle.record.specs.declared.refusal.Refusal as why
use Rattle.soak.specs.declared.Refusal.TheVariants.{Record}
use Rattle.soak.proofs.Loop.{onward, refused, ends_decided, ends_at_start}
use Rattle.soak.proofs.back.Goals as goal
use Rattle.soak.proofs.back.Goals.{in-None, in-Some+then-decided}

-- what `map_err` makes of an error
mapped : {X W E : Type 0} {P : W → E → Type 0} (f : W → E) → ((w : W) (e : E) → P w e → e ≡ f w) → (r : Result X W) (m : Result X E) (e : E)
    → MatchResult r (λ x. m ≡ Ok x) (λ w. IsErrAnd m (P w)) → m ≡ Err e → (w : W) × (r ≡ Err w) × (e ≡ f w)
mapped f by (Ok x) m e h p = cc
mapped f by (Err w) (Ok x) e h p = cc
mapped f by (Err w) (Err d) e h p = (w, refl, let q : e ≡ d = cc in q ∙ by w d h)

kept : {X W E : Type 0} (P : W → E → Type 0) (r : Result X W) (m : Result X E) (x : X)
    → MatchResult r (λ y. m ≡ Ok y) (λ w. IsErrAnd m (P w)) → m ≡ Ok x → r ≡ Ok x
kept P (Ok y) m x h p = cc
kept P (Err w) (Ok y) x h p = absurd h
kept P (Err w) (Err d) x h p = cc

pub returns-in_err-local-clause-told : goal.returns-in_err-local-clause-told
returns-in_err-local-clause-told c =
    let undecided = sym c.decided.ensures ∙ c.if-decided.false in
    let told = mapped (λ (w : why.Refusal). Record w (c.loop-quad.read + 1)) (λ w e k. search rules) c.readings-met.result c.map_err.result
    c.in_err-local.field-0.0 c.map_err.ensures.cases c.in_err-local.was in
    let p = err_from_is_err_and c.from_residual.result c.from_residual.ensures.1 in
    rw (p.1, p.2, told.2) (sym (refused c.requires c.loop-quad.invariant _ _ c.in-Some.ensures.steps undecided told.0 (sym c.readings-met.ensures ∙ told.1)))

pub loop-quad-preserved : goal.loop-quad-preserved
loop-quad-preserved c =
    let undecided = sym c.decided.ensures ∙ c.if-decided.false in
    let told = kept _ c.readings-met.result c.map_err.result (c.in_ok-local.local, c.in_ok-local.remote) c.map_err.ensures.cases c.in_ok-local.was in
    let fits : SFits w16 c.in_ok-local.remote = search rules in
    onward c.requires c.loop-quad.invariant _ _ c.in-Some.ensures.steps undecided c.in_ok-local.local c.in_ok-local.remote (sym c.readings-met.ensures ∙ told) _
    (c.before-ends.ensures ∙ rw (to_z-of_z fits))

pub returns-clause-told : goal.returns-clause-told
returns-clause-told c =
    let invariant = c.loop-quad.invariant in
    elim c.match-next.branch [
      | in-None w ↦ rw c.pulled.ensures (ends_at_start c.requires invariant w.in-None.ensures.steps.0)
      | in-Some+then-decided w ↦ rw c.pulled.ensures (ends_decided c.requires invariant (sym w.decided.ensures ∙ w.if-decided.true))
    ]
