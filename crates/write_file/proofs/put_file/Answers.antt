-- Assumes nothing.
use Rattle.write_file.proofs.Ends.{file_put}
use Rattle.write_file.proofs.put_file.Goals as goal

pub returns : goal.returns
returns c = file_put c.args.out.now c.args.start.now c.args.body.now _ _ _ c.args.t c.requires c.copy_to.ensures c.copy_to-2.ensures c.put_end.ensures
