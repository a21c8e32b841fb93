-- How many ticks a command generates at most.
use Rattle.std.proofs.Common.{◌≡◌, ◌≤◌, ◌&&◌, ℕ, Bool, true, false, cond, List, [], ◌∷◌, Option, Some, None, refl, subst}
use Rattle.std.specs.Prelude.{◌==◌, codes, nat_le, ⊤}
use Rattle.std.specs.Option.{option_map}
use Rattle.std.proofs.lemmas.Bool.{and_parts, leb-true}
use Rattle.gs_bytes.specs.Numbers.{decimal_up_to, is_decimal, number_of as number_spelled}
use Rattle.gs_command.specs.declared.command.Detail.{Detail}
use Rattle.gs_command.specs.declared.command.Generated.{Generated}
use Rattle.gs_command.specs.declared.command.TrialCommand.{TrialCommand}
use Rattle.gs_command.specs.declared.command.TrialCommand.TheVariants.{Script, Make, Tape}
use Rattle.gs_command.specs.Words.{at_least_one, command_of, generated_by, generated_of, is_word, number_in_word, script_of, ticks_in_words}

decimal_few : (most : ℕ) (word : List ℕ) (n : ℕ) → decimal_up_to most word ≡ Some n → n ≤ most
decimal_few most word n is = by (is_decimal word && nat_le (number_spelled word) most) refl is
  where
    by : (b : Bool) → (is_decimal word && nat_le (number_spelled word) most) ≡ b → cond b (Some (number_spelled word)) None ≡ Some n → n ≤ most
    by true e is =
        let same : number_spelled word ≡ n = cc in
        subst (λ (k : ℕ). k ≤ most) same (leb-true (number_spelled word) most (and_parts (is_decimal word) (nat_le (number_spelled word) most) e).1)
    by false e is = absurd cc

number_few : (most : ℕ) (word : List ℕ) (n : ℕ) → number_in_word most word ≡ Some n → n ≤ most
number_few most word n is = by (decimal_up_to most word) refl is
  where
    by : (o : Option ℕ) → decimal_up_to most word ≡ o → at_least_one o ≡ Some n → n ≤ most
    by None e is = absurd cc
    by (Some m) e is = decimal_few most word n (some m (m == 0) is e)
      where
        some : (m : ℕ) (b : Bool) → cond b None (Some m) ≡ Some n → decimal_up_to most word ≡ Some m → decimal_up_to most word ≡ Some n
        some m true is e = absurd cc
        some m false is e = cc

ticks_few : (words : List (List ℕ)) (n : ℕ) → ticks_in_words words ≡ Some n → n ≤ 2000
ticks_few [] n is = absurd cc
ticks_few (word ∷ []) n is = number_few 2000 word n is
ticks_few (word ∷ more ∷ words) n is = absurd cc

generated_few : (words : List (List ℕ)) (g : Generated) → generated_of words ≡ Some g → g.ticks ≤ 2000
generated_few [] g is = absurd cc
generated_few (word ∷ words) g is = by (number_in_word 4294967295 word) (ticks_in_words words) refl is
  where
    by : (o p : Option ℕ) → ticks_in_words words ≡ p → generated_by o p ≡ Some g → g.ticks ≤ 2000
    by None None e is = absurd cc
    by None (Some n) e is = absurd cc
    by (Some m) None e is = absurd cc
    by (Some m) (Some n) e is =
        let same : n ≡ g.ticks = cc in
        subst (λ (k : ℕ). k ≤ 2000) same (ticks_few words n e)

-- a command that generates does so with so many ticks
abbrev pub IsFew : TrialCommand → Type 0
IsFew (Script detail) = ⊤
IsFew (Make generated) = generated.ticks ≤ 2000
IsFew (Tape generated) = generated.ticks ≤ 2000

pub command_few : (words : List (List ℕ)) (command : TrialCommand) → command_of words ≡ Some command → IsFew command
command_few [] command is = absurd cc
command_few (first ∷ rest) command is =
    by (is_word (codes "script") first) (is_word (codes "make") first) (is_word (codes "tape") first) is
  where
    script : (o : Option Detail) → option_map Script o ≡ Some command → IsFew command
    script None is = absurd cc
    script (Some d) is = let same : Script d ≡ command = cc in subst IsFew same tt

    make : (o : Option Generated) → generated_of rest ≡ o → option_map Make o ≡ Some command → IsFew command
    make None e is = absurd cc
    make (Some g) e is = let same : Make g ≡ command = cc in subst IsFew same (generated_few rest g e)

    tape : (o : Option Generated) → generated_of rest ≡ o → option_map Tape o ≡ Some command → IsFew command
    tape None e is = absurd cc
    tape (Some g) e is = let same : Tape g ≡ command = cc in subst IsFew same (generated_few rest g e)

    by : (a b c : Bool) → cond a (option_map Script (script_of rest))
        (cond b (option_map Make (generated_of rest)) (cond c (option_map Tape (generated_of rest)) None)) ≡ Some command
        → IsFew command
    by true b c is = script (script_of rest) is
    by false true c is = make (generated_of rest) refl is
    by false false true is = tape (generated_of rest) refl is
    by false false false is = absurd cc
