-- The addresses of ports over datagrams: a text denotes at most one, and two of different families are refused.
use Rattle.std.proofs.Common.{◌≡◌, ℕ, List, ap, arith, inl, inr}
use Rattle.std.specs.Prelude.{◌⊎◌, codes}
use Rattle.std.proofs.NetLemmas.Theorems.{IsSocketText_unique}
use Rattle.std.specs.Net.Grammar.{IsSocketText}
use Rattle.std.specs.Net.Socket.{socket_port}
use Rattle.std.specs.declared.net.SocketAddr.{SocketAddr}
use Rattle.toml.specs.Data.{Members}
use Rattle.pb_service.specs.declared.fault.PlanFault.{PlanFault}
use Rattle.pb_service.specs.declared.fault.PlanFault.TheVariants.{Memory, Range}
use Rattle.pb_service.specs.declared.section.Section.TheVariants.{Port}
use Rattle.pb_service.specs.declared.section.KeyTable.TheVariants.{Row}
use Rattle.pb_service.specs.Sections.{path_at}
use Rattle.pb_service.specs.Values.{HasSocketAddress}
use Rattle.pb_service.specs.Tables.{AreOneFamily, AreAddressesOf}
use Rattle.pb_service.specs.Refusals.{RefusesRemote}

-- a text denotes no address with a port if it denotes one whose port is 0 (used by `socket_address`)
pub no_other_port : (text : List ℕ) (a : SocketAddr) → IsSocketText text a → socket_port a ≡ 0
    → HasSocketAddress text → ⊥
no_other_port text a h zero (b, (k, above)) =
    let same : socket_port b ≡ socket_port a = ap socket_port (IsSocketText_unique text b a k h) in
    omega (arith, same, zero, above)

-- two addresses of different families refuse the table that gives them (used by `addresses_of`)
pub remote_refused : (index : ℕ) (row : Members) (local remote : SocketAddr) (fault : PlanFault)
    → AreAddressesOf row local remote → (AreOneFamily local remote → ⊥)
    → (fault ≡ Memory) ⊎ (fault ≡ Range (path_at (Row Port index) (codes "remote"))) → RefusesRemote index row fault
remote_refused index row local remote fault told apart (inl m) = inl m
remote_refused index row local remote fault told apart (inr t) = inr (t, (local, remote, told, apart))
