use Rattle.gs_split.proofs.splitter.lengthen.Goals as goal

pub unwrap-requires : goal.unwrap-requires
unwrap-requires c = c.resize.ensures.succeeds c.requires
