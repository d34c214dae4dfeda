-- A label is six bytes, and tells its job and its edition: labels of different jobs or editions differ.
use Rattle.block.proofs.Base.{◌<◌, ◌^◌, ℕ, ◌∙◌, ◌≡◌, ap, sym, List, drop, length, length-append, take, drop_at, take_at}
use Rattle.block.specs.Below.{AreBytes}
use Rattle.block.specs.BigEndian.{bytes_of}
use Rattle.block.proofs.Entries.{below-append}
use Rattle.block.proofs.Convert.{length-bytes_of, bytes_of-bytes, bytes_of-same}
use Rattle.label.specs.Label.{label_of}

pub length_label : (job edition : ℕ) → length (label_of job edition) ≡ 6
unfolding label_of
length_label job edition =
    rw (length-append (bytes_of 4 job) (bytes_of 2 edition), length-bytes_of 4 job, length-bytes_of 2 edition)

pub label-bytes : (job edition : ℕ) → AreBytes (label_of job edition)
unfolding label_of
label-bytes job edition =
    below-append 256 (bytes_of 4 job) (bytes_of 2 edition) (bytes_of-bytes 4 job) (bytes_of-bytes 2 edition)

-- the first four bytes are the job's, and the others the edition's
job-part : (job edition : ℕ) → take 4 (label_of job edition) ≡ bytes_of 4 job
unfolding label_of
job-part job edition = take_at (bytes_of 4 job) (bytes_of 2 edition) 4 (length-bytes_of 4 job)

edition-part : (job edition : ℕ) → drop 4 (label_of job edition) ≡ bytes_of 2 edition
unfolding label_of
edition-part job edition = drop_at (bytes_of 4 job) (bytes_of 2 edition) 4 (length-bytes_of 4 job)

module _ (j e j' e' : ℕ) (same : label_of j e ≡ label_of j' e') where
  pub label-job : j < 2 ^ 32 → j' < 2 ^ 32 → j ≡ j'
  label-job h k =
      bytes_of-same 4 j j' h k (sym (job-part j e) ∙ (ap (λ (l : List ℕ). take 4 l) same ∙ job-part j' e'))

  pub label-edition : e < 2 ^ 16 → e' < 2 ^ 16 → e ≡ e'
  label-edition h k =
      bytes_of-same 2 e e' h k (sym (edition-part j e) ∙ (ap (λ (l : List ℕ). drop 4 l) same ∙ edition-part j' e'))
