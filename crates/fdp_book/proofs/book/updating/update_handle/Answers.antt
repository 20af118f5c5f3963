use Rattle.fdp_book.proofs.Updating.{named-there}
use Rattle.fdp_book.proofs.book.updating.update_handle.Goals as goal

pub update-requires-clause-handle : goal.update-requires-clause-handle
update-requires-clause-handle c = (named-there c.args.config.now c.args.tables.now c.args.nsid c.args.pid c.in-Some.rg c.in-Some.ruh c.named_by.result c.requires c.named_by.ensures c.in-Some.is).1
