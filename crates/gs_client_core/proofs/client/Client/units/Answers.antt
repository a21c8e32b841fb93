use Rattle.gs_client_core.proofs.client.Client.units.Goals as goal

pub returns : goal.returns
returns c = λ client came sound hs stands ready e. c.units_of.ensures client came hs stands.packet stands.queue ready e
