-- The header, and behind it the capabilities in the part that was lent (`front_put`).
use Rattle.module_layout.proofs.Modules.{front_put}
use Rattle.module_layout.proofs.put_front.Goals as goal

pub returns : goal.returns
returns c =
    front_put c.args.bound c.args.numbers.now c.args.out.now c.requires _ _ _ _ c.in_words.ensures c.put_capabilities.ensures
