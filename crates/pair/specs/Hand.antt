-- The program's detour: it keeps one device at hand for as long as records name no other, and knows the other by its address and its lines. Nothing
-- of document 02 stands here; proofs/AtHand.antt says that the detour is `bus_effect_of`.
-- Assumes nothing.
use Rattle.std.specs.Prelude.{ℕ, Bool, true, false, not, ◌||◌, ◌&&◌, cond, eqb, leb}
use Rattle.registers.specs.Page.{address_of}
use Rattle.device.specs.Pins.{pins_of, first_of}
use Rattle.device.specs.Bus.{powered_of, alert_response}
use Rattle.pair.specs.declared.Bus.{Bus}
use Rattle.pair.specs.declared.hand.Hand.{Hand}
use Rattle.pair.specs.declared.Named.{Named}
use Rattle.pair.specs.declared.Named.TheVariants.{Neither, First, Second, Both}
use Rattle.pair.specs.Bus.{two_of, picked_of, placed_of, at_address_of, respondent_of}

-- whom a record names, by its kind and its first operand; a device alone is named always
unfoldable pub named_at : Bus → ℕ → ℕ → Named
named_at p kind a =
    cond (two_of p)
    (cond (leb kind 4) (cond (eqb kind 4 && eqb a alert_response) (respondent_of p) (at_address_of p a))
    (cond (eqb kind 7) Both
    (cond (leb 8 kind) Second First)))
    First

-- the device at hand is the second; where neither is named, or both, it is the first
abbrev pub is_second : Named → Bool
is_second Neither = false
is_second First = false
is_second Second = true
is_second Both = false

abbrev pub is_both : Named → Bool
is_both Neither = false
is_both First = false
is_both Second = false
is_both Both = true

-- the other's address
abbrev pub away_of : Bus → Bool → ℕ
away_of p second = address_of (picked_of p (not second)).variant

-- the other's lines, as bits of the first answer byte: none where it is absent, or restarted with the one at hand
unfoldable pub other_lines_of : Bus → Bool → Bool → ℕ
other_lines_of p second restart = cond (two_of p && not restart) (first_of (pins_of (picked_of p (not second))) false false false) 0

abbrev pub hand_for : Bus → Named → Hand
hand_for p n =
    record {
      devices = p.devices;
      second = is_second n;
      restart = is_both n;
      away = away_of p (is_second n);
      lines = other_lines_of p (is_second n) (is_both n);
    }

-- for a record whose kind and first operand are these
abbrev pub hand_of : Bus → ℕ → ℕ → Hand
hand_of p kind a = hand_for p (named_at p kind a)

-- a conversion of the other
abbrev pub others_of : Bool → ℕ → Bool
others_of second kind = cond second (eqb kind 5 || eqb kind 6) (leb 8 kind)

-- a record may name the other device, or both
abbrev pub else_named : Bool → ℕ → ℕ → ℕ → Bool
else_named second away kind a = (leb kind 4 && (eqb a away || eqb a alert_response)) || (eqb kind 7 || others_of second kind)

-- there the device at hand is left; a device alone never is
abbrev pub leaves_of : Hand → ℕ → ℕ → Bool
leaves_of h kind a = eqb h.devices 2 && else_named h.second h.away kind a

-- the second as after power-on where both restart; the first, which is then at hand, restarts with its record
abbrev pub settled_of : Bus → Bool → Bus
settled_of p restart = cond restart (placed_of p true (powered_of p.second.variant)) p
