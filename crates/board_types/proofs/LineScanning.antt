-- How lines stand at the front of a text.
use Rattle.std.proofs.Common.{zero, ◌≡◌, ℕ, ◌+◌, ◌-◌, ◌<◌, ◌≤◌, List, [], ◌∷◌, length, take, drop, refl}
use Rattle.std.proofs.Common.{sym, ap, arith, Bool, true, false, ◌==◌, ◌&&◌, if◌then◌else◌, suc, get_or}
use Rattle.std.specs.Str.Lines.{strip_carriage_return}
use Rattle.board_types.specs.TextLines.{onto_first, text_lines, size_before}

one_more : (n : ℕ) → 1 + n ≡ suc n
one_more n = omega arith

and_false : (test : Bool) → (test && false) ≡ false
and_false true = refl
and_false false = refl

-- a carriage return is looked for after the first byte
strip_longer : (b c : ℕ) (cs : List ℕ) → strip_carriage_return (b ∷ c ∷ cs) ≡ b ∷ strip_carriage_return (c ∷ cs)
strip_longer b c cs =
    let outer : suc (suc (length cs)) - 1 ≡ suc (length cs) = omega arith in
    let inner : suc (length cs) - 1 ≡ length cs = omega arith in
    rw (outer, inner) (pushed (get_or (c ∷ cs) (length cs) 0 == 13) (take (length cs) (c ∷ cs)) (c ∷ cs))
  where
    pushed : (test : Bool) (x y : List ℕ) → (if test then b ∷ x else b ∷ y) ≡ b ∷ (if test then x else y)
    pushed true x y = refl
    pushed false x y = refl

last_one : (b : ℕ) (ends returns : Bool) → drop (if ends then 0 else 1 + 0) (b ∷ []) ≡ []
    → (if ends then [] ∷ [] else (if returns && false then [] else (b ∷ []) ∷ [])) ≡ take (if ends then 0 else 1 + 0) (b ∷ []) ∷ []
last_one b true returns ended = cc
last_one b false true ended = refl
last_one b false false ended = refl

last_by : (b : ℕ) (bs : List ℕ) (ends returns next : Bool) → (next ≡ true → size_before 10 bs ≡ 0) → 0 < length bs
    → drop (if ends then 0 else 1 + size_before 10 bs) (b ∷ bs) ≡ []
    → (drop (size_before 10 bs) bs ≡ [] → text_lines bs ≡ take (size_before 10 bs) bs ∷ [])
    → (if ends then [] ∷ text_lines bs else (if returns && next then text_lines bs else onto_first b (text_lines bs)))
    ≡ take (if ends then 0 else 1 + size_before 10 bs) (b ∷ bs) ∷ []
last_by b bs true returns next at_feed some ended lines = cc
last_by b [] false returns next at_feed some ended lines = absurd (omega arith)
last_by b (c ∷ cs) false returns true at_feed some ended lines =
    let none : c ∷ cs ≡ [] = (rw (one_more (size_before 10 (c ∷ cs)), at_feed refl) at ended) in cc
last_by b (c ∷ cs) false returns false at_feed some ended lines =
    rw (and_false returns) (rw (one_more (size_before 10 (c ∷ cs))) (ap (onto_first b) (lines (rw (one_more (size_before 10 (c ∷ cs))) at ended))))

feed_size : (c : ℕ) (cs : List ℕ) → (c == 10) ≡ true → size_before 10 (c ∷ cs) ≡ 0
feed_size c cs is = rw is refl

-- the text's first line is its last, if no line feed stands in it
pub line_last : (b : ℕ) (bs : List ℕ) → drop (size_before 10 (b ∷ bs)) (b ∷ bs) ≡ [] → text_lines (b ∷ bs) ≡ take (size_before 10 (b ∷ bs)) (b ∷ bs) ∷ []
line_last b [] ended = last_one b (b == 10) (b == 13) ended
line_last b (c ∷ cs) ended = last_by b (c ∷ cs) (b == 10) (b == 13) (c == 10) (feed_size c cs) (omega arith) ended (line_last c cs)

-- a byte that isn't a carriage return goes before a line
strip_other : (b : ℕ) → (b == 13) ≡ false → strip_carriage_return (b ∷ []) ≡ b ∷ []
strip_other b is = rw is refl

strip_return : (b : ℕ) → (b == 13) ≡ true → strip_carriage_return (b ∷ []) ≡ []
strip_return b is = rw is refl

ended_one : (b c : ℕ) (rest : List ℕ) (ends returns : Bool) → drop (if ends then 0 else 1 + 0) (b ∷ []) ≡ c ∷ rest
    → (if ends then [] ∷ [] else (if returns && false then [] else (b ∷ []) ∷ []))
    ≡ strip_carriage_return (take (if ends then 0 else 1 + 0) (b ∷ [])) ∷ text_lines rest
ended_one b c rest true returns is = let none : [] ≡ rest = cc in ap (λ (r : List ℕ). [] ∷ text_lines r) none
ended_one b c rest false returns is = cc

ended_next : (b d : ℕ) (ds lines : List ℕ) (more : List (List ℕ)) (size : ℕ) (returns next : Bool)
    → (b == 13) ≡ returns → (next ≡ true → size ≡ 0) → (next ≡ false → 0 < size) → text_lines (d ∷ ds) ≡ strip_carriage_return (take size (d ∷ ds)) ∷ more
    → (if returns && next then text_lines (d ∷ ds) else onto_first b (text_lines (d ∷ ds))) ≡ strip_carriage_return (b ∷ take size (d ∷ ds)) ∷ more
ended_next b d ds lines more size true true is at_feed past first = rw (at_feed refl, strip_return b is) (rw (at_feed refl) at first)
ended_next b d ds lines more size false true is at_feed past first = rw (at_feed refl, strip_other b is) (ap (onto_first b) (rw (at_feed refl) at first))
ended_next b d ds lines more zero returns false is at_feed past first = absurd (omega (arith, past refl))
ended_next b d ds lines more (suc n) returns false is at_feed past first = rw (and_false returns) (rw (strip_longer b d (take n ds)) (ap (onto_first b) first))

no_feed_size : (d : ℕ) (ds : List ℕ) → (d == 10) ≡ false → 0 < size_before 10 (d ∷ ds)
no_feed_size d ds is = rw is (omega arith)

ended_by : (b c d : ℕ) (ds rest : List ℕ) (ends returns : Bool) → (b == 13) ≡ returns
    → (drop (size_before 10 (d ∷ ds)) (d ∷ ds) ≡ c ∷ rest
    → text_lines (d ∷ ds) ≡ strip_carriage_return (take (size_before 10 (d ∷ ds)) (d ∷ ds)) ∷ text_lines rest)
    → drop (if ends then 0 else 1 + size_before 10 (d ∷ ds)) (b ∷ d ∷ ds) ≡ c ∷ rest
    → (if ends then [] ∷ text_lines (d ∷ ds) else (if returns && (d == 10) then text_lines (d ∷ ds) else onto_first b (text_lines (d ∷ ds))))
    ≡ strip_carriage_return (take (if ends then 0 else 1 + size_before 10 (d ∷ ds)) (b ∷ d ∷ ds)) ∷ text_lines rest
ended_by b c d ds rest true returns was lines is = let same : d ∷ ds ≡ rest = cc in ap (λ (r : List ℕ). [] ∷ text_lines r) same
ended_by b c d ds rest false returns was lines is =
    rw (one_more (size_before 10 (d ∷ ds)))
    (ended_next b d ds [] (text_lines rest) (size_before 10 (d ∷ ds)) returns (d == 10) was
    (feed_size d ds) (no_feed_size d ds) (lines (rw (one_more (size_before 10 (d ∷ ds))) at is)))

-- the text's first line ends at its first line feed
pub line_ended : (bs : List ℕ) (c : ℕ) (rest : List ℕ) → drop (size_before 10 bs) bs ≡ c ∷ rest
    → text_lines bs ≡ strip_carriage_return (take (size_before 10 bs) bs) ∷ text_lines rest
line_ended [] c rest is = cc
line_ended (b ∷ []) c rest is = ended_one b c rest (b == 10) (b == 13) is
line_ended (b ∷ d ∷ ds) c rest is = ended_by b c d ds rest (b == 10) (b == 13) refl (line_ended (d ∷ ds) c rest) is

take_whole : (bs : List ℕ) → take (length bs) bs ≡ bs
take_whole [] = refl
take_whole (b ∷ bs) = ap (λ (r : List ℕ). b ∷ r) (take_whole bs)

pub take_all : (bs : List ℕ) → take (suc (length bs) - 1) bs ≡ bs
take_all bs = let size : suc (length bs) - 1 ≡ length bs = omega arith in rw size (take_whole bs)

pub last_at : (s : List ℕ) (n : ℕ) (back : List ℕ) → (length s == 0) ≡ false → n ≡ size_before 10 s → back ≡ drop n s → length back < 1
    → text_lines s ≡ take n s ∷ text_lines back
last_at [] n back some size is none = cc
last_at (b ∷ bs) n [] some size is none = rw size (line_last b bs (sym (rw size at is)))
last_at (b ∷ bs) n (c ∷ cs) some size is none = absurd (omega arith)

pub ended_at : (s : List ℕ) (n : ℕ) (back : List ℕ) → n ≡ size_before 10 s → back ≡ drop n s → 1 ≤ length back
    → text_lines s ≡ strip_carriage_return (take n s) ∷ text_lines (take (length back - 1) (drop 1 back))
ended_at s n [] size is some = absurd (omega arith)
ended_at s n (c ∷ cs) size is some = rw (take_all cs, size) (line_ended s c cs (sym (rw size at is)))
