-- The names from outside this crate's proofs that they use, each with the module that has it.
pub use Rattle.block.proofs.Base.{Bool, Fits, List, [], ◌*◌, ◌++◌, ◌+◌, ◌-◌, ◌/◌, ◌<◌, ◌^◌, ◌∙◌, ◌∷◌, ◌≡◌, ◌≢◌, ◌≤◌, ap, ap₂, arith, drop}
pub use Rattle.block.proofs.Base.{drop_at, drop-drop, eq-eqb, eqb, eqb-true, false, get_or, length, length-append, length-drop}
pub use Rattle.block.proofs.Base.{length-take-le, lit<, ne_eqb, rules, refl, replicate, suc, sym, take}
pub use Rattle.block.proofs.Base.{take-append-drop, take_at, true, w32, w8, xor_self, zero, ℕ}
pub use Rattle.block.proofs.Convert.{bytes_of-same, length-bytes_of, number_of-lt, number_of-same}
pub use Rattle.block.proofs.Entries.{below-drop, below_each, below-replicate}
pub use Rattle.block.proofs.Same.{same_equal, same_not, same_refl, test_iff}
pub use Rattle.block.proofs.Tails.{over-behind, returned, tail_is, tailed}
pub use Rattle.block.proofs.WordsBack.{four_entries, length-unwords, length-words, unwords-bytes, unwords-front, unwords-number}
pub use Rattle.block.proofs.WordsBack.{unwords_twelve, unwords-words, unwords-xors, words-below, words-unwords, xors-four}
pub use Rattle.block.proofs.Xor.{xor_same}
pub use Rattle.block.proofs.Xors.{length-xors, xors-append, xors_cancel, xors_comm}
pub use Rattle.block.specs.Below.{AreBytes, AreWords}
unfoldable pub use Rattle.block.specs.BigEndian.{bytes_of, number_of}
pub use Rattle.block.specs.Blocks.{block_at, cat}
pub use Rattle.block.specs.Over.{over}
pub use Rattle.block.specs.Same.{same}
pub use Rattle.block.specs.Wide.{value}
pub use Rattle.block.specs.Words.{word_at, words}
unfoldable pub use Rattle.block.specs.Words.{unwords}
pub use Rattle.block.specs.Xor.{◌⊕◌, xors}
pub use Rattle.cipher.proofs.Blocks.{encrypt-unwords, encrypt_block-bytes, length-encrypt_block}
pub use Rattle.cipher.specs.Sm4.{encrypt_block, encrypt_words}
pub use Rattle.counter.proofs.JumpSteps.{gcm-jump_on, no_gcm-jump}
pub use Rattle.counter.specs.Counter.{gcm_jump, gcm_next, jumped}
pub use Rattle.ghash.proofs.IvBlocks.{iv-blocks}
pub use Rattle.ghash.proofs.Join.{ghash-lt}
pub use Rattle.ghash.specs.Ghash.{auth_blocks, ghash}
pub use Rattle.sixteen.proofs.Padded.{block_of, xors_fit}
pub use Rattle.stream.proofs.Ahead.{length-jumped}
pub use Rattle.stream.proofs.Counters.{gcm_next-bytes, jumped-stepped, length-gcm_next}
pub use Rattle.stream.proofs.RoundTrip.{length-stream, stream_back}
pub use Rattle.stream.specs.Stream.{stream_mode}
pub use Rattle.stream.specs.declared.Kind.TheVariants.{Gctr}
pub use Rattle.walk.proofs.Chain.{chain-block, chain-rest}
pub use Rattle.walk.specs.Walk.{chain}
unfoldable pub use Rattle.walk.specs.Walk.{stepped}
pub use Rattle.gcm.specs.Gcm.{hashed_counter, masked_tag, nonce_counter, tag_part, text_part}
unfoldable pub use Rattle.gcm.specs.Gcm.{first_counter, hash_key, opens_under, sealed, tag_of, text_into, text_of}
pub use Rattle.gcm.specs.Pads.{PadsFor}
