-- What the callees promise, in the order of the calls. The type is an entry, and finding it changes nothing (`entry_got`).
use Rattle.finding.proofs.Entries.{entry_got}
use Rattle.writer_globals.proofs.Wrapper.{wrapper}
use Rattle.writer_globals.proofs.pointers.write_wrapper.Goals as goal

pub returns : goal.returns
returns c = let a = c.args in let m = c.decorate_struct_member in let f = c.type_id-x in
    wrapper a.ty a.class a.stride c.take_id-id.ensures c.put_block.ensures m.ensures.kept (entry_got a.ty m.new.w f.result f.ensures) c.type_struct.ensures c.take_id-pointer.ensures c.type_pointer.ensures
