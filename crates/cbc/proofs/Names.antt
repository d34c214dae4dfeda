-- The names from outside this crate's proofs that they use, each with the module that has it.
pub use Rattle.block.proofs.Base.{Fits, List, [], ◌%◌, ◌*◌, ◌++◌, ◌+◌, ◌-◌, ◌/◌, ◌<◌, ◌^◌, ◌∙◌, ◌∷◌, ◌≡◌, ◌≤◌, ap, append_assoc, append-nil}
pub use Rattle.block.proofs.Base.{arith, drop, drop-append-add, drop_at, drop-drop, get_or, length, length-append, length-drop}
pub use Rattle.block.proofs.Base.{length-take-le, rules, refl, reverse, reverse-reverse, suc, sym, take, take-add, take_all}
pub use Rattle.block.proofs.Base.{take-append-drop, take-append-le, take-append_seam, take_at, w32, zero, ℕ}
pub use Rattle.block.proofs.Cat.{cat-same, length-block_at, length-cat}
pub use Rattle.block.proofs.Entries.{below-append, below-drop, below_each, below-replicate, below-take}
pub use Rattle.block.proofs.InWords.{front-xored}
pub use Rattle.block.proofs.Tails.{over-append, returned, returned_is, tail_is, tailed}
pub use Rattle.block.proofs.WordsBack.{length-unwords, length-words, unwords-front, unwords-xors, words-below}
pub use Rattle.block.proofs.Xors.{length-xors, xors-below, xors_cancel, xors_comm}
pub use Rattle.block.specs.Below.{AreBytes, AreWords}
pub use Rattle.block.specs.Blocks.{block_at, cat}
pub use Rattle.block.specs.Over.{over}
pub use Rattle.block.specs.Words.{unwords, words}
pub use Rattle.block.specs.Xor.{xors}
pub use Rattle.cipher.proofs.Blocks.{block-decrypt-encrypt, block-encrypt-decrypt, decrypt-turned, decrypt-unwords, encrypt-unwords}
pub use Rattle.cipher.proofs.Blocks.{encrypt_block-bytes, length-decrypt_block, length-encrypt_block}
pub use Rattle.cipher.proofs.Bounds.{decrypt-four}
pub use Rattle.cipher.specs.Sm4.{decrypt_words, encrypt_words}
unfoldable pub use Rattle.cipher.specs.Sm4.{decrypt_block, encrypt_block}
pub use Rattle.padding.proofs.Filled.{length-padded, rest-padded}
pub use Rattle.padding.proofs.Into.{into}
pub use Rattle.padding.proofs.Unpadded.{behind, padded-unpadded, unpadded-behind, unpadded-le, unpadded-padded}
pub use Rattle.padding.specs.Padding.{opened_into, padded, padding, unpadded}
pub use Rattle.padding.specs.declared.BadPadding.{BadPadding}
pub use Rattle.std.specs.Prelude.{Err, Ok, Result}
pub use Rattle.sixteen.proofs.Before.{block-before}
pub use Rattle.sixteen.proofs.Onward.{reached-end, reached-over, states_before}
pub use Rattle.sixteen.proofs.Padded.{block_of, xored-blocks}
pub use Rattle.walk.proofs.Batch.{Fed, FedBack, fed_on, fed_reached, gives, reached-first, reached-next, reached_on, walk-ended}
pub use Rattle.walk.proofs.Chain.{Any, chain-block, chain_length, chain-rest}
pub use Rattle.walk.proofs.Cut.{chain_cut, end_cut}
pub use Rattle.walk.proofs.Loop.{nothing_left}
pub use Rattle.walk.proofs.Undo.{Undoes, undo}
pub use Rattle.walk.specs.Reached.{Reached}
pub use Rattle.walk.specs.Walk.{chain, end_state}
unfoldable pub use Rattle.walk.specs.Walk.{stepped}
pub use Rattle.cbc.specs.Cbc.{cbc_decrypt, cbc_encrypt, cbc_text}
unfoldable pub use Rattle.cbc.specs.Cbc.{cbc_seal}
