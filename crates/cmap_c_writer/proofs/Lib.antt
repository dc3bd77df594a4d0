mod EncoderSlots
mod StringsPut
mod AllDeclared
mod LengthsGiven
mod TextsGiven
mod UnitsGiven
