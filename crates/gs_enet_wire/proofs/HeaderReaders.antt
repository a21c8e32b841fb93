-- What the readers of a header and of the commands take, put together.
use Rattle.std.proofs.Common.{◌≡◌, ℕ, ◌+◌, ◌-◌, ◌*◌, ◌/◌, ◌%◌, ◌<◌, Bool, List, [], ◌∷◌, ◌++◌, length, Option, refl, sym, ap, ◌∙◌, append_assoc, arith, bit_and}
use Rattle.std.proofs.Common.{length-append}
use Rattle.std.specs.Prelude.{is_some}
use Rattle.std.proofs.lemmas.List.{append-nil}
use Rattle.std.proofs.lemmas.Nat.{and_mask}
use Rattle.std.proofs.lemmas.Nat.Bits.{and_pow}
use Rattle.byteorder.specs.Numbers.{big_number-reads_back}
use Rattle.gs_bytes.specs.Field.{big_from}
use Rattle.gs_enet_wire.specs.declared.command.Command.{Command}
use Rattle.gs_enet_wire.specs.Grammar.{u16, field_bytes, asking, IsCommand, AreCommands, BeginsNoCommand, StopsAt}
use Rattle.gs_enet_wire.specs.Reading.{TakesFields, TakesCommand}
use Rattle.gs_enet_wire.specs.ReadingHeader.{TakesTime, TakesHeader, TakesCommands}

-- the number that was taken is the one that the bytes begin with
pub word_taken : (word : ℕ) (old new : List ℕ) → TakesFields (u16 word ∷ []) old new → big_from 0 2 old ≡ word
word_taken word old new t = ap (big_from 0 2) t.parts ∙ big_number-reads_back 2 word new t.fit.0

pub compressed_bit : (word : ℕ) → bit_and word 16384 ≡ word / 16384 % 2 * 16384
compressed_bit word = and_pow word 14

pub takes_header : (word : ℕ) (sent : Option ℕ) (old mid new : List ℕ) → TakesFields (u16 word ∷ []) old mid → bit_and word 16384 ≡ 0
    → TakesTime word sent mid new
    → TakesHeader (record { peer = bit_and word 4095; session = bit_and (word / 4096) 3; sent = sent }) old new
takes_header word sent old mid new t plain time =
    let low : bit_and word 4095 ≡ word % 4096 = and_mask word 12 in
    let middle : bit_and (word / 4096) 3 ≡ word / 4096 % 4 = and_mask (word / 4096) 2 in
    let bit = compressed_bit word in
    let small : word < 65536 = t.fit.0 in
    let said = time.said in
    let whole : word ≡ bit_and word 4095 + 4096 * bit_and (word / 4096) 3 + 32768 * asking (is_some sent) = omega arith in
    let first : old ≡ field_bytes (u16 (bit_and word 4095 + 4096 * bit_and (word / 4096) 3 + 32768 * asking (is_some sent))) ++ mid =
    t.parts ∙ ap (λ (n : ℕ). field_bytes (u16 n) ++ mid) whole in
    record {
      has_header = record { peer = omega arith; session = omega arith; sent = time.fit };
      parts = first ∙ ap (λ (l : List ℕ). field_bytes (u16 (bit_and word 4095 + 4096 * bit_and (word / 4096) 3 + 32768 * asking (is_some sent))) ++ l)
          time.parts;
    }

pub commands_push : (t : Bool) (a b : List ℕ) (cs : List Command) (c : Command) → AreCommands t a cs → IsCommand t b c → AreCommands t (a ++ b) (cs ++ c ∷ [])
commands_push t a b [] c p q =
    (b, [], ap (λ (l : List ℕ). l ++ b) p ∙ sym (append-nil b), q, refl)
commands_push t a b (d ∷ cs) c p q =
    (p.0, p.1 ++ b, ap (λ (l : List ℕ). l ++ b) p.2 ∙ append_assoc p.0 p.1 b, p.3, commands_push t p.1 b cs c p.4 q)

-- one more command
pub takes_more : (t : Bool) (cs : List Command) (c : Command) (old mid new : List ℕ) → TakesCommands t cs old mid → TakesCommand t c mid new
    → TakesCommands t (cs ++ c ∷ []) old new
takes_more t cs c old mid new p q = record {
  front = p.front ++ q.front;
  parts = p.parts ∙ ap (λ (l : List ℕ). p.front ++ l) q.parts ∙ sym (append_assoc p.front q.front new);
  are_commands = commands_push t p.front q.front cs c p.are_commands q.is_command;
}

-- what is left behind the commands read so far doesn't begin with one
pub stops_here : (t : Bool) (start place : ℕ) (cs : List Command) (old now : List ℕ) → TakesCommands t cs old now → BeginsNoCommand t now → 0 < length now
    → place ≡ start + (length old - length now) → StopsAt t start old place
stops_here t start place cs old now p none some e =
    let len : length old ≡ length p.front + length now = ap length p.parts ∙ length-append p.front now in
    record {
      front = p.front;
      rest = now;
      parts = p.parts;
      commands = cs;
      before = p.are_commands;
      more = λ (nil : now ≡ []). let zero : length now ≡ 0 = ap length nil in absurd (omega arith);
      none = none;
      at = omega arith;
    }
