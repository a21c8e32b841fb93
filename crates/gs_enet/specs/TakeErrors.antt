-- A fault of the bytes, as a peer tells it.
use Rattle.gs_enet_wire.specs.declared.error.WireError.{WireError}
use Rattle.gs_enet_wire.specs.declared.error.WireError.TheVariants as wire
use Rattle.gs_enet.specs.declared.take_error.TakeError.{TakeError}
use Rattle.gs_enet.specs.declared.take_error.TakeError.TheVariants.{BadDatagram, OutOfMemory}

abbrev pub take_error : WireError → TakeError
take_error (wire.BadDatagram place) = BadDatagram place
take_error wire.OutOfMemory = OutOfMemory
