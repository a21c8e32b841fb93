-- Reads that failed before all that was wanted had come.
use Rattle.std.proofs.Common.{◌≡◌, ◌≢◌, ◌<◌, ◌≤◌, ◌+◌, ◌∙◌, ℕ, List, [], ◌++◌, length, Option, Some, None, sym, arith, append-nil, length-append}
use Rattle.std.specs.Io.KnownBytes.{Appends, Consumes, Keeps}
use Rattle.gs_reader.specs.Buffered.{HandsOn, IsShort}
use Rattle.gs_reader.proofs.BufferedLemmas.{hands_on_more}

Consumes-kept_as : (a b : Option (List ℕ)) → Keeps a b → Consumes a b []
Consumes-kept_as None b kept = tt
Consumes-kept_as (Some x) None kept = kept
Consumes-kept_as (Some x) (Some y) kept = sym kept

Appends-kept_as : (a b : Option (List ℕ)) → Keeps a b → Appends a b []
Appends-kept_as None b kept = tt
Appends-kept_as (Some x) None kept = kept
Appends-kept_as (Some x) (Some y) kept = kept ∙ sym (append-nil x)

-- nothing was held and nothing came
pub short_at_once : (held : List ℕ) (left left' taken taken' : Option (List ℕ)) → held ≡ []
    → Keeps left left' → Keeps taken taken' → IsShort held held left left' taken taken' 1
short_at_once held left left' taken taken' none l t = record {
  lost = [];
  handed = record {
    came = [];
    parts = append-nil held;
    left_after = Consumes-kept_as left left' l;
    taken_after = Appends-kept_as taken taken' t;
  };
  none_held = none;
  fewer = omega arith;
}

-- not a byte came
pub short_of : (wanted : ℕ) {held held' : List ℕ} {left left' taken taken' : Option (List ℕ)} → wanted ≢ 0
    → IsShort held held' left left' taken taken' 1 → IsShort held held' left left' taken taken' wanted
short_of wanted some short = record {
  lost = short.lost;
  handed = short.handed;
  none_held = short.none_held;
  fewer = omega (arith, short.fewer, some);
}

-- behind what was handed on before
pub short_behind : (wanted more : ℕ) {held middle held' : List ℕ} {left left' left'' taken taken' taken'' : Option (List ℕ)} {bytes : List ℕ}
    → HandsOn held middle left left' taken taken' bytes → IsShort middle held' left' left'' taken' taken'' more
    → length bytes + more ≤ wanted → IsShort held held' left left'' taken taken'' wanted
short_behind wanted more {held = held} {middle = middle} {held' = held'} {left = left} {left' = left'} {left'' = left''} {taken = taken}
    {taken' = taken'} {taken'' = taken''} {bytes = bytes} first short within =
    record {
      lost = bytes ++ short.lost;
      handed = hands_on_more held middle held' left left' left'' taken taken' taken'' bytes short.lost first short.handed;
      none_held = short.none_held;
      fewer = omega (arith, length-append bytes short.lost, short.fewer, within);
    }
