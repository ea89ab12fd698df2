-- What a buffer holds once two lists were written to it, one behind the other.
use Rattle.std.proofs.Common.{◌≡◌, ℕ, ◌+◌, List, ◌++◌, length, take, drop}
use Rattle.std.proofs.lemmas.List.{take_at, drop_at, drop-drop}

-- `head` stands in front of the buffer from `h` on, and `bytes` over the `n` bytes behind it
pub both_written : (buffer head bytes : List ℕ) (h n k : ℕ) → length head ≡ h → k ≡ n
    → take h (head ++ drop h buffer) ++ (bytes ++ drop k (drop h (head ++ drop h buffer))) ≡ head ++ (bytes ++ drop (h + n) buffer)
both_written buffer head bytes h n k e same =
    rw (take_at head (drop h buffer) h e, drop_at head (drop h buffer) h e, same, drop-drop n h buffer)
