use Rattle.fdp_readings.proofs.Leading.{led-holds}
use Rattle.fdp_readings.proofs.drawn.led_pages_hold_their_blocks.Goals as goal

pub returns : goal.returns
returns c = led-holds
