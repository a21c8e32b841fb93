-- The two sides of a session's control connection: what they write and tell behind each deed.
use Rattle.std.specs.Prelude.{ℕ, zero, suc, List, [], ◌∷◌, ◌++◌, length, pos, if◌then◌else◌}
use Rattle.gs_control.specs.declared.message.Message.TheVariants as message
use Rattle.gs_control.specs.Message.{bytes_of}
use Rattle.gs_enet.specs.Record.{PeerRecord, at_moment}
use Rattle.gs_enet.specs.Steps.{can_send}
use Rattle.gs_enet.specs.Write.{going_out}
use Rattle.gs_enet.specs.World.{Side, Send, Write, acted}
use Rattle.gs_enet.specs.Sides.{written_out}
use Rattle.gs_client_core.specs.declared.asker.Owed.{Owed}
use Rattle.gs_client_core.specs.Owed.{request_channel, owed_message}
use Rattle.gs_run.specs.Session.{Part}

abbrev pub both_written_out : ℕ → Part → Part
both_written_out now part = record part {
  client = written_out now part.client;
  host = written_out now part.host;
}

-- These are owed: in order, each is given to the client's connection as long as the window takes it.
abbrev pub with_owed : List Owed → Part → Part
with_owed [] part = record part { owed = [] }
with_owed (first ∷ rest) part =
    if can_send part.client.peer request_channel
    then with_owed rest (record part { client = acted (Send request_channel (owed_message first)) part.client })
    else record part { owed = first ∷ rest }

-- behind each deed what is owed is given, as far as it may be, and each side writes out
unfoldable pub settled_part : ℕ → Part → Part
settled_part now part = both_written_out now (with_owed part.owed part)
