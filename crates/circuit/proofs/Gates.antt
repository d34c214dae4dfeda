-- The gates of the code as data.
use Rattle.block.proofs.Base.{List, [], ◌∷◌}
use Rattle.lanes.proofs.Gates.{Gate, X, A}

-- the gates of the code, in its order
unfoldable pub circuit : List Gate
circuit =
    X 5 3 ∷ X 8 5 ∷ X 2 0 ∷ X 3 2 ∷ X 9 5 ∷ X 11 7 ∷ X 9 3 ∷ X 11 9 ∷
    X 15 7 ∷ X 10 3 ∷ X 12 7 ∷ X 7 3 ∷ X 13 4 ∷ X 9 7 ∷ X 12 9 ∷ X 8 5 ∷
    X 22 15 ∷ X 12 6 ∷ X 21 5 ∷ X 24 17 ∷ X 27 16 ∷ X 22 18 ∷ X 24 13 ∷ X 23 18 ∷
    X 13 32 ∷ X 20 33 ∷ X 17 34 ∷ X 27 35 ∷ X 27 36 ∷ A 2 23 ∷ A 5 20 ∷ X 0 1 ∷
    A 20 33 ∷ X 0 3 ∷ A 6 30 ∷ A 9 28 ∷ X 0 1 ∷ A 13 17 ∷ X 0 3 ∷ A 20 24 ∷
    A 19 26 ∷ X 0 1 ∷ A 24 26 ∷ X 0 3 ∷ X 12 2 ∷ X 11 1 ∷ X 9 4 ∷ X 8 3 ∷
    X 3 25 ∷ X 3 32 ∷ X 3 21 ∷ X 3 29 ∷ X 3 2 ∷ A 4 2 ∷ X 2 0 ∷ A 2 0 ∷
    X 0 6 ∷ X 6 5 ∷ X 8 4 ∷ A 0 1 ∷ X 0 8 ∷ X 10 0 ∷ X 7 1 ∷ A 11 0 ∷
    X 0 2 ∷ X 10 1 ∷ A 9 0 ∷ X 14 0 ∷ X 0 3 ∷ X 12 8 ∷ X 13 2 ∷ X 10 6 ∷
    X 2 3 ∷ A 1 67 ∷ A 9 64 ∷ A 14 76 ∷ A 5 72 ∷ A 9 70 ∷ A 21 58 ∷ A 9 64 ∷
    A 7 66 ∷ A 12 65 ∷ A 10 55 ∷ A 18 58 ∷ A 23 72 ∷ A 14 57 ∷ A 18 60 ∷ A 30 63 ∷
    A 18 69 ∷ A 16 68 ∷ A 21 72 ∷ X 17 14 ∷ X 13 10 ∷ X 9 0 ∷ X 19 2 ∷ X 12 9 ∷
    X 9 0 ∷ X 12 6 ∷ X 18 4 ∷ X 21 4 ∷ X 19 6 ∷ X 23 20 ∷ X 25 3 ∷ X 8 2 ∷
    X 14 6 ∷ X 19 16 ∷ X 13 4 ∷ X 31 25 ∷ X 8 2 ∷ X 19 5 ∷ X 13 5 ∷ X 8 6 ∷
    X 29 23 ∷ X 16 9 ∷ X 22 6 ∷ X 27 24 ∷ X 14 1 ∷ X 7 4 ∷ X 9 2 ∷ X 22 16 ∷
    X 20 9 ∷ X 4 129 ∷ X 4 130 ∷ X 3 131 ∷ X 10 132 ∷ X 13 133 ∷
    []
