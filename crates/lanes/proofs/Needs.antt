-- Needs of a function that one proof closes: the next eight or sixteen of them at once.
pub next8 {ℓ} : {A B C D E F G H : Type 0} {R : Type ℓ} → (A → B → C → D → E → F → G → H → R) → A × B × C × D × E × F × G × H → R
next8 f p = f p.0 p.1 p.2 p.3 p.4 p.5 p.6 p.7

pub next16 {ℓ} : {A B C D E F G H I J K L M N O P : Type 0} {R : Type ℓ}
    → (A → B → C → D → E → F → G → H → I → J → K → L → M → N → O → P → R)
    → A × B × C × D × E × F × G × H × I × J × K × L × M × N × O × P → R
next16 f p = f p.0 p.1 p.2 p.3 p.4 p.5 p.6 p.7 p.8 p.9 p.10 p.11 p.12 p.13 p.14 p.15
