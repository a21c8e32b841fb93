-- The twelve kinds of command as a table: a command is its kind, its head, its fields' numbers and its data.
use Rattle.std.proofs.Common.{◌≡◌, ℕ, List, [], ◌∷◌, length, refl, get_or}
use Rattle.std.specs.Prelude.{◌==◌, if◌then◌else◌}
use Rattle.gs_enet_wire.specs.declared.command.Command.{Command}
use Rattle.gs_enet_wire.specs.declared.command.Command.TheVariants as command
use Rattle.gs_enet_wire.specs.declared.command.Head.{Head}
use Rattle.gs_enet_wire.specs.Grammar.{command_head, kind, fields, payload}
use Rattle.gs_enet_wire.proofs.FieldLemmas.{widths, values}

-- the widths of a kind's fields
abbrev pub widths_of : ℕ → List ℕ
widths_of k =
    if k == 1 then 2 ∷ 2 ∷ []
    else (if k == 2 then 2 ∷ 1 ∷ 1 ∷ 4 ∷ 4 ∷ 4 ∷ 4 ∷ 4 ∷ 4 ∷ 4 ∷ 4 ∷ 4 ∷ 4 ∷ []
    else (if k == 3 then 2 ∷ 1 ∷ 1 ∷ 4 ∷ 4 ∷ 4 ∷ 4 ∷ 4 ∷ 4 ∷ 4 ∷ 4 ∷ 4 ∷ []
    else (if k == 4 then 4 ∷ []
    else (if k == 5 then []
    else (if k == 6 then 2 ∷ []
    else (if k == 7 then 2 ∷ 2 ∷ []
    else (if k == 8 then 2 ∷ 2 ∷ 4 ∷ 4 ∷ 4 ∷ 4 ∷ []
    else (if k == 9 then 2 ∷ 2 ∷ []
    else (if k == 10 then 4 ∷ 4 ∷ []
    else (if k == 11 then 4 ∷ 4 ∷ 4 ∷ []
    else (if k == 12 then 2 ∷ 2 ∷ 4 ∷ 4 ∷ 4 ∷ 4 ∷ []
    else [])))))))))))

-- how long the data is, by the fields' numbers
abbrev pub data_length : ℕ → List ℕ → ℕ
data_length k vs =
    if k == 1 then 0
    else (if k == 2 then 0
    else (if k == 3 then 0
    else (if k == 4 then 0
    else (if k == 5 then 0
    else (if k == 6 then get_or vs 0 0
    else (if k == 7 then get_or vs 1 0
    else (if k == 8 then get_or vs 1 0
    else (if k == 9 then get_or vs 1 0
    else (if k == 10 then 0
    else (if k == 11 then 0
    else (if k == 12 then get_or vs 1 0
    else 0)))))))))))

-- the command of that kind, head, numbers and data
abbrev pub built : ℕ → Head → List ℕ → List ℕ → Command
built k h vs text =
    if k == 1 then command.Acknowledge h.channel h.number h.asks (get_or vs 0 0) (get_or vs 1 0)
    else (if k == 2 then command.Connect (record {
      channel = h.channel;
      number = h.number;
      asks = h.asks;
      peer = get_or vs 0 0;
      incoming = get_or vs 1 0;
      outgoing = get_or vs 2 0;
      mtu = get_or vs 3 0;
      window = get_or vs 4 0;
      channels = get_or vs 5 0;
      incoming_bandwidth =
          get_or vs 6 0;
      outgoing_bandwidth = get_or vs 7 0;
      throttle_interval = get_or vs 8 0;
      acceleration = get_or vs 9 0;
      deceleration =
          get_or vs 10 0;
      connect_id = get_or vs 11 0;
      extra = get_or vs 12 0;
    })
    else (if k == 3 then command.VerifyConnect h.channel h.number h.asks (get_or vs 0 0) (get_or vs 1 0) (get_or vs 2 0) (get_or vs 3 0) (get_or vs 4 0)
    (get_or vs 5 0) (get_or vs 6 0) (get_or vs 7 0) (get_or vs 8 0) (get_or vs 9 0) (get_or vs 10 0) (get_or vs 11 0)
    else (if k == 4 then command.Disconnect h.channel h.number h.asks (get_or vs 0 0)
    else (if k == 5 then command.Ping h.channel h.number h.asks
    else (if k == 6 then command.Reliable h.channel h.number h.asks text
    else (if k == 7 then command.Unreliable h.channel h.number h.asks (get_or vs 0 0) text
    else (if k == 8 then command.Fragment h.channel h.number h.asks (get_or vs 0 0) (get_or vs 2 0) (get_or vs 3 0) (get_or vs 4 0) (get_or vs 5 0) text
    else (if k == 9 then command.Unsequenced h.channel h.number h.asks (get_or vs 0 0) text
    else (if k == 10 then command.Bandwidth h.channel h.number h.asks (get_or vs 0 0) (get_or vs 1 0)
    else (if k == 11 then command.Throttle h.channel h.number h.asks (get_or vs 0 0) (get_or vs 1 0) (get_or vs 2 0)
    else (if k == 12 then command.UnreliableFragment h.channel h.number h.asks (get_or vs 0 0) (get_or vs 2 0) (get_or vs 3 0) (get_or vs 4 0)
    (get_or vs 5 0) text
    else command.Ping h.channel h.number h.asks)))))))))))

pub widths-fields : (c : Command) → widths (fields c) ≡ widths_of (kind c)
widths-fields (command.Acknowledge _ _ _ _ _) = refl
widths-fields (command.Connect c) = refl
widths-fields (command.VerifyConnect _ _ _ _ _ _ _ _ _ _ _ _ _ _ _) = refl
widths-fields (command.Disconnect _ _ _ _) = refl
widths-fields (command.Ping _ _ _) = refl
widths-fields (command.Reliable _ _ _ _) = refl
widths-fields (command.Unreliable _ _ _ _ _) = refl
widths-fields (command.Fragment _ _ _ _ _ _ _ _ _) = refl
widths-fields (command.Unsequenced _ _ _ _ _) = refl
widths-fields (command.Bandwidth _ _ _ _ _) = refl
widths-fields (command.Throttle _ _ _ _ _ _) = refl
widths-fields (command.UnreliableFragment _ _ _ _ _ _ _ _ _) = refl

pub length-payload : (c : Command) → length (payload c) ≡ data_length (kind c) (values (fields c))
length-payload (command.Acknowledge _ _ _ _ _) = refl
length-payload (command.Connect c) = refl
length-payload (command.VerifyConnect _ _ _ _ _ _ _ _ _ _ _ _ _ _ _) = refl
length-payload (command.Disconnect _ _ _ _) = refl
length-payload (command.Ping _ _ _) = refl
length-payload (command.Reliable _ _ _ _) = refl
length-payload (command.Unreliable _ _ _ _ _) = refl
length-payload (command.Fragment _ _ _ _ _ _ _ _ _) = refl
length-payload (command.Unsequenced _ _ _ _ _) = refl
length-payload (command.Bandwidth _ _ _ _ _) = refl
length-payload (command.Throttle _ _ _ _ _ _) = refl
length-payload (command.UnreliableFragment _ _ _ _ _ _ _ _ _) = refl

pub built_again : (c : Command) → built (kind c) (command_head c) (values (fields c)) (payload c) ≡ c
built_again (command.Acknowledge _ _ _ _ _) = refl
built_again (command.Connect c) = refl
built_again (command.VerifyConnect _ _ _ _ _ _ _ _ _ _ _ _ _ _ _) = refl
built_again (command.Disconnect _ _ _ _) = refl
built_again (command.Ping _ _ _) = refl
built_again (command.Reliable _ _ _ _) = refl
built_again (command.Unreliable _ _ _ _ _) = refl
built_again (command.Fragment _ _ _ _ _ _ _ _ _) = refl
built_again (command.Unsequenced _ _ _ _ _) = refl
built_again (command.Bandwidth _ _ _ _ _) = refl
built_again (command.Throttle _ _ _ _ _ _) = refl
built_again (command.UnreliableFragment _ _ _ _ _ _ _ _ _) = refl

-- a command is its parts
pub same_from_parts : (c d : Command) → kind c ≡ kind d → command_head c ≡ command_head d → values (fields c) ≡ values (fields d) → payload c ≡ payload d
    → c ≡ d
same_from_parts c d k h v p =
    let one = built_again c in
    let other = built_again d in
    cc
