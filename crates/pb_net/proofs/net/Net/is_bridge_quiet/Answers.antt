use Rattle.std.proofs.Common.{ℕ, refl, arith}
use Rattle.pb_lan.specs.declared.event.Event.TheVariants.{Receive, Transmit}
use Rattle.pb_net.specs.Dues.{IsQuiet}
use Rattle.pb_net.proofs.QuietLemmas.{quiet-more}
use Rattle.pb_net.proofs.net.Net.is_bridge_quiet.Goals as goal

pub loop-place-init : goal.loop-place-init
loop-place-init c = record {
  receives = λ port range. absurd (omega (arith, range.0, range.1));
  transmits = λ port range. absurd (omega (arith, range.0, range.1));
}

pub loop-place-preserved : goal.loop-place-preserved
loop-place-preserved c =
    let net = c.args.self.now in
    let before = c.loop-place.invariant in
    let told = c.if-not-is_port_quiet.ensures in
    let R : ℕ → Type 0 = λ p. IsQuiet net (Receive c.args.bridge p) in
    let T : ℕ → Type 0 = λ p. IsQuiet net (Transmit c.args.bridge p) in
    record {
      receives = quiet-more R c.loop-place.place before.receives (told.receive refl);
      transmits = quiet-more T c.loop-place.place before.transmits (told.transmit refl);
    }
