-- `pieces::seal::Seal::end` meets its contract: what the checks refuse leaves output and state, and otherwise the tag is written and
-- the state is shut.
use Rattle.pieces.proofs.Names.{◌≡◌, ◌≤◌, arith, length, rules, sym}
use Rattle.pieces.proofs.Passing.{both_hashable, writing_passed}
use Rattle.pieces.proofs.seal.Seal.end.Goals as goal

pub end-hash-requires-clause-hashable : goal.end-hash-requires-clause-hashable
end-hash-requires-clause-hashable c = both_hashable (writing_passed _ _ _ _ _ _ (sym c.in_default.ensures)).0

pub xor_bytes-requires : goal.xor_bytes-requires
xor_bytes-requires c =
    let room : 16 ≤ length c.args.out.now = (writing_passed _ _ _ _ _ _ (sym c.in_default.ensures)).1 in
    let n : length c.args.self.mask ≡ 16 = search rules in
    let m : length c.end-hash.result ≡ 16 = search rules in
    (omega arith, omega arith)
