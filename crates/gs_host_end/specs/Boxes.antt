-- Cited by private contracts alone: what was put into an outbox.
use Rattle.std.specs.Prelude.{ℕ, List, [], ◌∷◌}
use Rattle.std.specs.List.{flat_map}
use Rattle.gs_bytes.specs.declared.link.LinkEntry.{LinkEntry}
use Rattle.gs_bytes.specs.declared.link.LinkEntry.TheVariants.{Put, Took, Nothing}

-- the datagram of an entry, if one was put
abbrev pub put_bytes : LinkEntry → List (List ℕ)
put_bytes (Put to bytes) = bytes ∷ []
put_bytes (Took from bytes) = []
put_bytes Nothing = []

-- the datagrams that were put, in order
abbrev pub all_put : List LinkEntry → List (List ℕ)
all_put entries = flat_map put_bytes entries
