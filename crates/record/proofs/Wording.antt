-- What the fields of a word that was built are, and that a word without unnamed bits is the one built from its fields.
use Rattle.std.proofs.Common.{◌≡◌, ℕ, ◌/◌, ◌%◌, ◌<◌, arith}
use Rattle.std.proofs.lemmas.Nat.{shr-shr}
use Rattle.record.specs.Format.{head_word, choice_word, turn_word, pair_word, end_word}
use Rattle.record.specs.Faults.{kind, high, middle, low, number, pair_of}

module _ (s g : ℕ) (a : s < 256) (b : g < 256) where
  pub kind_head : kind (head_word s g) ≡ 1
  kind_head = omega arith

  pub middle_head : middle (head_word s g) ≡ s
  middle_head = omega arith

  pub low_head : low (head_word s g) ≡ g
  low_head = omega arith

  pub bits_head : head_word s g / 65536 % 4096 ≡ 0
  bits_head = omega arith

module _ (o k q : ℕ) (a : o < 256) (b : k < 256) (c : q < 256) where
  pub kind_choice : kind (choice_word o k q) ≡ 2
  kind_choice = omega arith

  pub high_choice : high (choice_word o k q) ≡ o
  high_choice = omega arith

  pub middle_choice : middle (choice_word o k q) ≡ k
  middle_choice = omega arith

  pub low_choice : low (choice_word o k q) ≡ q
  low_choice = omega arith

  pub bits_choice : choice_word o k q / 0x1000000 % 16 ≡ 0
  bits_choice = omega arith

module _ (p : ℕ) (a : p < 256) where
  pub kind_turn : kind (turn_word p) ≡ 3
  kind_turn = omega arith

  pub low_turn : low (turn_word p) ≡ p
  low_turn = omega arith

  pub bits_turn : turn_word p / 256 % 0x100000 ≡ 0
  bits_turn = omega arith

module _ (q : ℕ × ℕ) (a : q.0 < 256) (b : q.1 < 256) where
  pub kind_pair : kind (pair_word q) ≡ 4
  kind_pair = omega arith

  pub middle_pair : middle (pair_word q) ≡ q.0
  middle_pair = omega arith

  pub low_pair : low (pair_word q) ≡ q.1
  low_pair = omega arith

  pub bits_pair : pair_word q / 65536 % 4096 ≡ 0
  bits_pair = omega arith

module _ (n : ℕ) (a : n < 0x10000000) where
  pub kind_end : kind (end_word n) ≡ 5
  kind_end = omega arith

  pub number_end : number (end_word n) ≡ n
  number_end = omega arith

module _ (w : ℕ) where
  pub is_head : kind w ≡ 1 → w / 65536 % 4096 ≡ 0 → w ≡ head_word (middle w) (low w)
  is_head a b = omega arith

  pub is_choice : kind w ≡ 2 → w / 0x1000000 % 16 ≡ 0 → w ≡ choice_word (high w) (middle w) (low w)
  is_choice a b =
      let h : w / 256 / 256 ≡ w / 65536 = shr-shr w 8 8 in
      let i : w / 65536 / 256 ≡ w / 0x1000000 = shr-shr w 16 8 in
      let j : w / 0x1000000 / 16 ≡ w / 0x10000000 = shr-shr w 24 4 in
      omega arith

  pub is_turn : kind w ≡ 3 → w / 256 % 0x100000 ≡ 0 → w ≡ turn_word (low w)
  is_turn a b = omega arith

  pub is_pair : kind w ≡ 4 → w / 65536 % 4096 ≡ 0 → w ≡ pair_word (pair_of w)
  is_pair a b = omega arith

  pub is_end : kind w ≡ 5 → w ≡ end_word (number w)
  is_end a = omega arith
