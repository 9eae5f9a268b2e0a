use Rattle.pb_lan.proofs.Stillness.{still_frames_are_traced}
use Rattle.pb_lan.proofs.laws.still_frames_are_traced.Goals as goal

pub returns : goal.returns
returns c = still_frames_are_traced
