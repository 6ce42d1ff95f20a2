-- `line_joined`: the first answer byte of joined lines is the device's own byte with the other's lines laid over it.
-- Assumes nothing.
use mathlib.Core.Path.{◌≡◌, refl}
use mathlib.Core.Bool.{Bool, true, false, ◌&&◌}
use lib.Dec.{eqb}
use lib.Bits.{bit_or}
use borrow.Author.Tests.{eqb-true}
use Rattle.laws.proofs.Choices.{and_left, and_right}
use Rattle.device.specs.declared.Pins.{Pins}
use Rattle.device.specs.Pins.{first_of}
use Rattle.pair.specs.Bus.{joined_of}

-- a test of both
abbrev all : (Bool → Bool) → Bool
all f = f true && f false

at : (f : Bool → Bool) → all f ≡ true → (x : Bool) → f x ≡ true
at f h true = and_left (f true) (f false) h
at f h false = and_right (f true) (f false) h

abbrev pins : Bool → Bool → Pins
pins a t = record { alert = a; tcrit = t }

abbrev test : Bool → Bool → Bool → Bool → Bool → Bool → Bool → Bool
test a b c d k t h =
    eqb (first_of (joined_of (pins a b) (pins c d)) k t h) (bit_or (first_of (pins a b) k t h) (first_of (pins c d) false false false))

-- all of the 128
tested : all (λ a. all (λ b. all (λ c. all (λ d. all (λ k. all (λ t. all (λ h. test a b c d k t h))))))) ≡ true
unfolding first_of
tested = refl

pub line_joined : (p q : Pins) (k t h : Bool) → first_of (joined_of p q) k t h ≡ bit_or (first_of p k t h) (first_of q false false false)
line_joined p q k t h =
    let a = p.alert in
    let b = p.tcrit in
    let c = q.alert in
    let d = q.tcrit in
    eqb-true _ _
    (at (λ h. test a b c d k t h)
    (at (λ t. all (λ h. test a b c d k t h))
    (at (λ k. all (λ t. all (λ h. test a b c d k t h)))
    (at (λ d. all (λ k. all (λ t. all (λ h. test a b c d k t h))))
    (at (λ c. all (λ d. all (λ k. all (λ t. all (λ h. test a b c d k t h)))))
    (at (λ b. all (λ c. all (λ d. all (λ k. all (λ t. all (λ h. test a b c d k t h))))))
    (at (λ a. all (λ b. all (λ c. all (λ d. all (λ k. all (λ t. all (λ h. test a b c d k t h))))))) tested a) b) c) d) k) t) h)
