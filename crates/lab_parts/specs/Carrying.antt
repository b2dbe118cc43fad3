-- A packet that a wire carries, whichever it is.
use Rattle.std.{specs.Prelude.{Bool, List, length, true, ℕ, ◌≡◌}}

module _ {W : Type 0} (is_faithful : Bool) (sends : W → ℕ → List ℕ → W → Type 0) (gives : W → ℕ → ℕ → List ℕ → W → Type 0) where
  -- A packet is sent to a port, and what the wire returns there is taken: at most as many bytes as the packet has.
  pub record IsCarried (before : W) (port : ℕ) (packet given : List ℕ) (after : W) : Type 0 where
    pub between : W
    pub is_sent : sends before port packet between
    pub is_given : gives between port (length packet) given after
    pub is_same : is_faithful ≡ true → given ≡ packet
