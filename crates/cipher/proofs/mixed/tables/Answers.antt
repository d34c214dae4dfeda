-- All 1,024 entries are the rule's, by one computed test.
use Rattle.cipher.proofs.Names.{L, mixed_from, mixed_table, refl, rotl, sbox_table}
use Rattle.cipher.proofs.mixed.tables.Goals as goal

pub returns : goal.returns
unfolding sbox_table rotl L mixed_from mixed_table
returns c = refl
