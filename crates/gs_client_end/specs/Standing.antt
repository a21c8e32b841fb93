-- The part of a session that a client's end stands for.
use Rattle.std.specs.Prelude.{ℕ, ◌≡◌, length}
use Rattle.gs_sides.specs.Standing.{IsSideOf}
use Rattle.gs_client_core.specs.Standing.{IsClientOf}
use Rattle.gs_run.specs.Session.{Part, handed_of, asked_of, played_of}
use Rattle.gs_client_end.specs.declared.end.ClientEnd.{ClientEnd}
use Rattle.gs_client_end.specs.declared.sums.ClientSums.{ClientSums}

-- how many frames were handed and ranges asked for, and how many audio units were played
pub record AreClientSums (sums : ClientSums) (part : Part) : Type 0 where
  pub handed : sums.handed ≡ length (handed_of part)
  pub asks : sums.asks ≡ length (asked_of part)
  pub units : sums.units ≡ length (played_of part)

pub record IsClientEndOf (end : ClientEnd) (session : ℕ) (part : Part) : Type 0 where
  pub session_is : end.session ≡ session
  pub client : IsClientOf end.client part.settings part.came part.sound
  pub side : IsSideOf end.side part.client
  pub asker : end.asker ≡ part.owed
  pub owed : end.owed ≡ length part.owed
  pub sums : AreClientSums end.sums part
