-- What writers put, one behind the other.
use Rattle.std.proofs.Common.{zero, suc, get_or, ◌≡◌, ℕ, Bool, true, false, ◌+◌, ◌*◌, ◌/◌, ◌%◌, ◌<◌, ◌≤◌, List, [], ◌∷◌, ◌++◌, length, take, drop, refl, sym}
use Rattle.std.proofs.Common.{ap, subst, ◌∙◌, append_assoc, arith, length-append}
use Rattle.std.specs.Prelude.{is_some}
use Rattle.std.specs.List.{flat_map, AllByRecursion}
use Rattle.gs_enet_wire.specs.declared.datagram.Datagram.{Datagram}
use Rattle.gs_enet_wire.proofs.Datagrams.{one_value}
use Rattle.std.proofs.lemmas.Grind.{flat_map-append}
use Rattle.std.proofs.lemmas.List.{take_more, take-append-drop, append-nil, drop-drop, take_at, drop_at, length-take-le}
use Rattle.gs_enet_wire.specs.Grammar.{header, AreCommands, IsWritable, SpellsDatagram, spelling, WireField, u8, u16, field_bytes, fields_bytes, Fit, kind}
use Rattle.gs_enet_wire.specs.Grammar.{command_head, fields}
use Rattle.gs_enet_wire.specs.Grammar.{payload, all_fields, after_first, asking, IsFirst, IsCommand, command_spelling}
use Rattle.gs_enet_wire.specs.declared.command.Command.{Command}
use Rattle.gs_enet_wire.specs.declared.command.Command.TheVariants as command
use Rattle.gs_enet_wire.specs.Writing.{PutsText, PutsFields}

pub puts_then : {x y : List ℕ} {p q r : ℕ} {a b c : List ℕ} → PutsText x p q a b → PutsText y q r b c → PutsText (x ++ y) p r a c
puts_then {x} {y} {p} {q} {r} {a} {b} {c} h k =
    let len = length-append x y in
    let ends : r ≡ q + length y = k.ends in
    let skip : (l : List ℕ) → drop r l ≡ drop (length y) (drop q l) = λ l. ap (λ (n : ℕ). drop n l) ends ∙ sym (drop-drop (length y) q l) in
    record {
      ends = omega (arith, h.ends, k.ends);
      front = k.front ∙ ap (λ (l : List ℕ). l ++ y) h.front ∙ append_assoc (take p a) x y;
      rest = k.rest ∙ skip b ∙ ap (drop (length y)) h.rest ∙ sym (skip a);
    }

fields_bytes-append : (fs gs : List WireField) → fields_bytes (fs ++ gs) ≡ fields_bytes fs ++ fields_bytes gs
fields_bytes-append [] gs = refl
fields_bytes-append (f ∷ fs) gs =
    ap (λ (l : List ℕ). field_bytes f ++ l) (fields_bytes-append fs gs) ∙ sym (append_assoc (field_bytes f) (fields_bytes fs) (fields_bytes gs))

Fit-append : (fs gs : List WireField) → Fit fs → Fit gs → Fit (fs ++ gs)
Fit-append [] gs fit fit' = fit'
Fit-append (f ∷ fs) gs fit fit' = (fit.0, Fit-append fs gs fit.1 fit')

-- fields, and then further ones
pub fields_then : {fs gs : List WireField} {p q r : ℕ} {a b c : List ℕ} → PutsFields fs p q a b → PutsFields gs q r b c → PutsFields (fs ++ gs) p r a c
fields_then {fs} {gs} {p} {q} {r} {a} {b} {c} h k =
    let both : PutsText (fields_bytes fs ++ fields_bytes gs) p r a c = puts_then h.puts k.puts in
    record { puts = subst (λ (l : List ℕ). PutsText l p r a c) (sym (fields_bytes-append fs gs)) both; fit = Fit-append fs gs h.fit k.fit }

-- text that was written in its place
pub puts_text : (text : List ℕ) (p : ℕ) (old new : List ℕ) → new ≡ take p old ++ text ++ drop (p + length text) old → p + length text ≤ length old
    → PutsText text p (p + length text) old new
puts_text text p old new e room =
    let len : length (take p old) ≡ p = length-take-le p old (omega arith) in
    let len' : length (take p old ++ text) ≡ p + length text = omega (arith, length-append (take p old) text) in
    record {
      ends = refl;
      front = ap (take (p + length text)) e ∙ take_at (take p old ++ text) (drop (p + length text) old) (p + length text) len';
      rest = ap (drop (p + length text)) e ∙ drop_at (take p old ++ text) (drop (p + length text) old) (p + length text) len';
    }

-- ---- commands

kind_small : (c : Command) → kind c < 16
kind_small (command.Acknowledge _ _ _ _ _) = omega arith
kind_small (command.Connect c) = omega arith
kind_small (command.VerifyConnect _ _ _ _ _ _ _ _ _ _ _ _ _ _ _) = omega arith
kind_small (command.Disconnect _ _ _ _) = omega arith
kind_small (command.Ping _ _ _) = omega arith
kind_small (command.Reliable _ _ _ _) = omega arith
kind_small (command.Unreliable _ _ _ _ _) = omega arith
kind_small (command.Fragment _ _ _ _ _ _ _ _ _) = omega arith
kind_small (command.Unsequenced _ _ _ _ _) = omega arith
kind_small (command.Bandwidth _ _ _ _ _) = omega arith
kind_small (command.Throttle _ _ _ _ _ _) = omega arith
kind_small (command.UnreliableFragment _ _ _ _ _ _ _ _ _) = omega arith

first_by : (k : ℕ) (b : Bool) → k < 16 → (k + 128 * asking b < 256) × ((k + 128 * asking b) % 16 ≡ k) × ((k + 128 * asking b) / 128 ≡ asking b)
first_by k true small = (omega arith, omega arith, omega arith)
first_by k false small = (omega arith, omega arith, omega arith)

first_is : (c : Command) → IsFirst (kind c + 128 * asking (command_head c).asks) c
first_is c =
    let h = first_by (kind c) (command_head c).asks (kind_small c) in
    record { small = h.0; low = h.1; high = h.2 }

-- a command's spelling is that command, in a timed datagram
pub spelling_is : (c : Command) → Fit (all_fields c) → IsCommand true (command_spelling c) c
spelling_is c fit = record {
  first = kind c + 128 * asking (command_head c).asks;
  is_first = first_is c;
  spelled = refl;
  fit = fit;
  answerable = λ _. refl;
}

-- a command's parts, one behind the other
pub puts_command : (c : Command) (first channel number : ℕ) (text : List ℕ) {p q r s t u : ℕ} {a b d e f g : List ℕ}
    → first ≡ kind c + 128 * asking (command_head c).asks → channel ≡ (command_head c).channel → number ≡ (command_head c).number → text ≡ payload c
    → PutsFields (u8 first ∷ []) p q a b → PutsFields (u8 channel ∷ []) q r b d → PutsFields (u16 number ∷ []) r s d e → PutsFields (fields c) s t e f
    → PutsText text t u f g
    → PutsText (command_spelling c) p u a g
puts_command c first channel number text {p} {q} {r} {s} {t} {u} {a} {b} {d} {e} {f} {g} is is2 is3 is4 h1 h2 h3 h4 h5 =
    let begun : PutsFields (u8 channel ∷ u16 number ∷ fields c) q t b f = fields_then h2 (fields_then h3 h4) in
    let rest : PutsText (fields_bytes (u8 channel ∷ u16 number ∷ fields c) ++ text) q u b g = puts_then begun.puts h5 in
    let named : PutsText (after_first c) q u b g = rw (← is2, ← is3, ← is4) rest in
    let small : first < 256 = h1.fit.0 in
    let byte : first % 256 ≡ kind c + 128 * asking (command_head c).asks = omega arith in
    let begins : PutsText ((kind c + 128 * asking (command_head c).asks) ∷ []) p q a b = subst (λ (n : ℕ). PutsText (n ∷ []) p q a b) byte h1.puts in
    puts_then begins named

-- ---- a list of commands

abbrev pub spellings : List Command → List ℕ
spellings cs = flat_map command_spelling cs

-- there is room for each command where there is room for all
pub room_at : (cs : List Command) (i : ℕ) (c : Command) → i < length cs → c ≡ get_or cs i c
    → length (spellings (take i cs)) + length (command_spelling c) ≤ length (spellings cs)
room_at [] i c lt is = absurd (omega arith)
room_at (d ∷ cs) zero c lt is =
    let len = length-append (command_spelling d) (spellings cs) in
    let same : length (command_spelling c) ≡ length (command_spelling d) = ap (λ (x : Command). length (command_spelling x)) is in
    omega arith
room_at (d ∷ cs) (suc i) c lt is =
    let later = room_at cs i c (omega arith) is in
    omega (arith, length-append (command_spelling d) (spellings cs), length-append (command_spelling d) (spellings (take i cs)))

pub payload_short : (c : Command) → length (payload c) ≤ length (command_spelling c)
payload_short c = let len = length-append (fields_bytes (all_fields c)) (payload c) in omega arith

-- one more command
pub spellings_more : (cs : List Command) (i : ℕ) (c : Command) → i < length cs → c ≡ get_or cs i c
    → spellings (take (i + 1) cs) ≡ spellings (take i cs) ++ command_spelling c
spellings_more cs i c lt is =
    ap spellings (take_more cs i c lt ∙ ap (λ (x : Command). take i cs ++ x ∷ []) (sym is)) ∙ flat_map-append command_spelling (take i cs) (c ∷ [])
    ∙ ap (λ (l : List ℕ). spellings (take i cs) ++ l) (append-nil (command_spelling c))

-- what was put from the start on, and what is behind it
pub put_whole : {x y : List ℕ} {q r : ℕ} {a b c : List ℕ} → PutsText x 0 q a b → PutsText y q r b c → c ≡ x ++ y ++ drop r a
put_whole {x} {y} {q} {r} {a} {b} {c} h k =
    let both : PutsText (x ++ y) 0 r a c = puts_then h k in
    sym (take-append-drop r c) ∙ ap (λ (l : List ℕ). l ++ drop r c) both.front ∙ ap (λ (l : List ℕ). x ++ y ++ l) both.rest

-- all spellings are those commands
pub spellings_are : (cs : List Command) → AllByRecursion (λ c. Fit (all_fields c)) cs → AreCommands true (spellings cs) cs
spellings_are [] fit = refl
spellings_are (c ∷ cs) fit = (command_spelling c, spellings cs, refl, spelling_is c fit.0, spellings_are cs fit.1)

-- what was written is read again
pub spelling_again : (d : Datagram) → IsWritable d → SpellsDatagram (spelling d) d
spelling_again d w =
    let timed : is_some d.sent ≡ true = w.timed in
    record {
      has_header = record { peer = w.peer; session = omega (arith, w.session); sent = w.sent };
      some = w.some;
      short = w.short;
      body = spellings d.commands;
      spelled = refl;
      commands = rw timed (spellings_are d.commands w.fit);
    }

pub spelling_same : (d e : Datagram) → IsWritable d → IsWritable e → spelling d ≡ spelling e → d ≡ e
spelling_same d e w w' same =
    let other : SpellsDatagram (spelling d) e = rw same (spelling_again e w') in
    one_value (spelling d) d e (spelling_again d w) other

-- a datagram's spelling is as long as any bytes that spell it
spellings_length : (t : Bool) (bytes : List ℕ) (cs : List Command) → AreCommands t bytes cs → length (spellings cs) ≡ length bytes
spellings_length t bytes [] p = ap length (sym p)
spellings_length t bytes (c ∷ cs) p =
    let first : length p.0 ≡ length (command_spelling c) = ap length p.3.spelled in
    let later = spellings_length t p.1 cs p.4 in
    let whole : length bytes ≡ length (p.0 ++ p.1) = ap length p.2 in
    omega (arith, length-append (command_spelling c) (spellings cs), length-append p.0 p.1)

pub same_length : (bytes : List ℕ) (d : Datagram) → SpellsDatagram bytes d → length (spelling d) ≡ length bytes
same_length bytes d s =
    let later = spellings_length (is_some d.sent) s.body d.commands s.commands in
    let whole : length bytes ≡ length (fields_bytes (header d) ++ s.body) = ap length s.spelled in
    omega (arith, length-append (fields_bytes (header d)) (spellings d.commands), length-append (fields_bytes (header d)) s.body)
