-- The places as the code names them. Not part of what a reader has to believe.
use Rattle.record.specs.Places.{Place, phase, done, mark, elapsed, input, analog, flag, analog_flag, output, remembered, number}
use Rattle.record.specs.declared.place.Place.{Place as Named}
use Rattle.record.specs.declared.place.Place.TheVariants.{Phase, Done, Mark, Elapsed, Input, Analog, Flag, AnalogFlag, Output, Remembered, Number}

abbrev pub said : Named → Place
said Phase = phase
said Done = done
said Mark = mark
said Elapsed = elapsed
said (Input n) = input n
said (Analog n) = analog n
said (Flag n) = flag n
said (AnalogFlag n) = analog_flag n
said (Output k) = output k
said (Remembered k) = remembered k
said (Number k) = number k
