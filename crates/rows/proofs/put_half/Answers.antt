use Rattle.block.proofs.Base.{◌∙◌, ◌≡◌, arith}
use Rattle.std.proofs.lemmas.Grind.{common_steps}
use Rattle.block.proofs.Convert.{library_bytes}
use Rattle.block.specs.BigEndian.{bytes_of}
use Rattle.rows.proofs.put_half.Goals as goal

pub returns : goal.returns
returns c =
    let e : c.to_be_bytes.result ≡ bytes_of 8 c.args.x = c.to_be_bytes.ensures ∙ library_bytes 8 _ in
    grind (arith, common_steps, e)
